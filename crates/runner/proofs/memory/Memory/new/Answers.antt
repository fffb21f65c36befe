-- Each table is filled with copies of one element.
use Rattle.std.proofs.Common.{◌≡◌, ◌*◌, replicate, length, ap, ◌∙◌, rules}
use Rattle.std.proofs.lemmas.List.{length-replicate}
use Rattle.wire.specs.declared.text.Text.{Text}
use Rattle.clients.specs.Lines.{no_pair, idle_line}
use Rattle.model.specs.Halls.{no_entry, no_operation, no_configuration}
use Rattle.runner.specs.Openings.{empty_seat}
use Rattle.runner.proofs.memory.Memory.new.Goals as goal

pub returns : goal.returns
returns c =
    let entry : c.default-3.result ≡ no_entry = search rules in
    let configuration : c.default-4.result ≡ no_configuration = search rules in
    let pair : c.default.result ≡ no_pair = search rules in
    let first : c.default-2.result ≡ no_configuration = search rules in
    let line : c.new.result ≡ idle_line no_configuration = c.new.ensures ∙ ap idle_line first in
    record {
      post = c.in_ok-vec.ensures.items_if_clones_equal (λ y h. h) ∙ ap (λ x. replicate 512 x) entry;
      log = c.in_ok-vec-2.ensures.items_if_clones_equal (λ y h. h) ∙ ap (λ p. replicate 64 (record no_operation { pair = p })) pair;
      roll = c.in_ok-vec-3.ensures.items_if_clones_equal (λ y h. h) ∙ ap (λ x. replicate 16 x) configuration;
      seats = c.in_ok-vec-4.ensures.items_if_clones_equal (λ y h. h) ∙ ap (λ l. replicate 32 (record empty_seat { line = l })) line;
      many = c.in_ok-vec-4.ensures.len;
      rows = ap length (c.in_ok-vec-5.ensures.items_if_clones_equal (λ y h. h)) ∙ length-replicate {A = Text} (164 * 64) c.default-5.result;
    }
