use Rattle.std.proofs.Common.{rules, string_bytes}
use Rattle.vectors.proofs.scripts.script_agrees.Goals as goal

pub returns : goal.returns
returns c = record {
  printed = string_bytes c.in_ok-printed.printed;
  shown = c.in_ok-printed.ensures;
  compared = search rules;
}
