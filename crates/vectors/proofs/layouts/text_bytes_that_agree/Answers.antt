use Rattle.std.proofs.Common.{◌+◌, ap, ◌∙◌}
use Rattle.wire.specs.Texts.{text_bytes}
use Rattle.vectors.specs.Compared.{agreeing}
use Rattle.vectors.specs.declared.layouts.TheConstants.{PAIR_TEXT, CONFIGURATION_TEXT}
use Rattle.vectors.proofs.layouts.text_bytes_that_agree.Goals as goal

pub returns : goal.returns
returns c =
    let pair = c.bytes_that_agree.ensures ∙ ap (λ xs. agreeing xs PAIR_TEXT) (c.bytes-pair.ensures.value ∙ ap text_bytes c.of_pair.ensures) in
    let configuration = c.bytes_that_agree-2.ensures ∙ ap (λ xs. agreeing xs CONFIGURATION_TEXT) (c.bytes-configuration.ensures.value ∙ ap text_bytes c.from.ensures) in
    λ i. pair i + configuration i
