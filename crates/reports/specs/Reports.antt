-- What is printed for a text of questions: a row for each line, then the counts.
use Rattle.std.specs.Prelude.{ℕ, ◌+◌, cond, List, [], ◌∷◌, ◌++◌, is_ok, Some, None, Ok, Err, codes, decimal, Option, Result}
use Rattle.fields.specs.Parts.{lines, fields}
use Rattle.refusals.specs.Places.{moved}
use Rattle.refusals.specs.Shown.{refusal_text}
use Rattle.queries.specs.declared.fault.QueryFault.{QueryFault}
use Rattle.queries.specs.declared.fault.QueryFault.TheVariants.{Unreadable}
use Rattle.queries.specs.declared.query.Query.{Query}
use Rattle.queries.specs.declared.reply.Reply.{Reply}
use Rattle.queries.specs.Faults.{query_refusal}
use Rattle.queries.specs.Queries.{query_of}
use Rattle.queries.specs.Replies.{answer, reply_text}

abbrev answered : Option Query → Result Reply QueryFault
answered None = Err Unreadable
answered (Some q) = answer q

-- the reply to a line
abbrev pub tried : List ℕ → Result Reply QueryFault
tried line = answered (query_of (fields line))

-- the row of a line: its reply, or its refusal with the line's number as the place
abbrev pub row : ℕ → Result Reply QueryFault → List ℕ
row n (Ok reply) = reply_text reply ++ codes "\n"
row n (Err fault) = refusal_text (moved (query_refusal fault) n) ++ codes "\n"

-- the rows of these lines, of which the first has this number
abbrev pub rows : ℕ → List (List ℕ) → List ℕ
rows n [] = []
rows n (l ∷ ls) = row n (tried l) ++ rows (n + 1) ls

-- how many of these lines have a reply, and how many have none
abbrev pub replies : List (List ℕ) → ℕ
replies [] = 0
replies (l ∷ ls) = cond (is_ok (tried l)) 1 0 + replies ls

abbrev pub refused : List (List ℕ) → ℕ
refused [] = 0
refused (l ∷ ls) = cond (is_ok (tried l)) 0 1 + refused ls

abbrev pub totals : ℕ → ℕ → List ℕ
totals values refusals = codes "values " ++ (decimal values ++ (codes "\nrefusals " ++ (decimal refusals ++ codes "\n")))

abbrev pub printed : List ℕ → List ℕ
printed text = rows 1 (lines text) ++ totals (replies (lines text)) (refused (lines text))
