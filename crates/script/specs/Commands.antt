-- What a line asks for, by its letter and the numbers in its fields.
use Rattle.std.specs.Option.{option_map}
use Rattle.std.specs.Prelude.{ℕ, ◌^◌, cond, List, [], drop, Some, None, Option, ◌==◌, nat_lt, slice_index, slice_index_or}
use Rattle.wire.specs.declared.entry.Entry.{Entry}
use Rattle.fields.specs.Numbers.{kept, number_of, signed_of}
use Rattle.script.specs.declared.command.SetUp.{SetUp as Hall}
use Rattle.script.specs.declared.command.Command.{Command}
use Rattle.script.specs.declared.command.Command.TheVariants.{SetUp, Issue, Read, Write, Deliver, CallOff, Collect, Meddle}
use Rattle.script.specs.Lines.{line_of}

-- goes on with what was read, if it could be
abbrev pub given : {A B : Type 0} → Option A → (A → Option B) → Option B
given None next = None
given (Some a) next = next a

-- the field at this place
abbrev pub field : List (List ℕ) → ℕ → List ℕ
field fs k = slice_index_or fs k []

abbrev pub number_at : List (List ℕ) → ℕ → Option ℕ
number_at fs k = number_of (field fs k)

-- a number of 8 bits, and one of 32
abbrev pub byte_of : List ℕ → Option ℕ
byte_of bs = kept (λ n. nat_lt n (2 ^ 8)) (number_of bs)

abbrev pub short_of : List ℕ → Option ℕ
short_of bs = kept (λ n. nat_lt n (2 ^ 32)) (number_of bs)

-- the seven numbers of a set-up
abbrev pub set_up_of : List (List ℕ) → Option Hall
set_up_of fs =
    given (number_at fs 0) (λ faults. given (number_at fs 1) (λ replicas. given (number_at fs 2) (λ clients.
    given (number_at fs 3) (λ set. given (number_at fs 4) (λ marked.
    given (signed_of (field fs 5)) (λ grams. given (number_at fs 6) (λ lot.
    Some (record {
      faults = faults;
      replicas = replicas;
      clients = clients;
      set = record { 0 = set };
      marked = record { 0 = marked };
      grams = grams;
      lot = lot;
    }))))))))

-- an entry without its sender, which the hall puts in
abbrev pub entry_of : List (List ℕ) → Option Entry
entry_of fs =
    given (byte_of (field fs 0)) (λ kind. given (byte_of (field fs 1)) (λ addressee.
    given (short_of (field fs 2)) (λ round. given (short_of (field fs 3)) (λ epoch. given (short_of (field fs 4)) (λ count.
    given (byte_of (field fs 5)) (λ writer. given (number_at fs 6) (λ word. given (number_at fs 7) (λ seal.
    Some (record {
      sender = 0;
      kind = kind;
      addressee = addressee;
      round = round;
      epoch = epoch;
      count = count;
      writer = writer;
      word = record { 0 = word };
      seal = record { 0 = seal };
    })))))))))

-- one number, which is all that I, R, O and T have
abbrev pub single_of : (ℕ → Command) → List (List ℕ) → Option Command
single_of asks fs = given (number_at fs 0) (λ n. Some (asks n))

abbrev pub write_of : List (List ℕ) → Option Command
write_of fs =
    given (number_at fs 0) (λ client. given (signed_of (field fs 1)) (λ grams. given (number_at fs 2) (λ lot.
    Some (Write client grams lot))))

abbrev pub deliver_of : List (List ℕ) → Option Command
deliver_of fs = given (number_at fs 0) (λ entry. given (number_at fs 1) (λ party. Some (Deliver entry party)))

abbrev pub meddle_of : List (List ℕ) → Option Command
meddle_of fs = given (number_at fs 0) (λ party. given (entry_of (drop 1 fs)) (λ entry. Some (Meddle party entry)))

-- what the fields behind a letter ask for: S 83, I 73, R 82, W 87, D 68, O 79, T 84, M 77
abbrev pub asked : ℕ → List (List ℕ) → Option Command
asked letter fs =
    cond (letter == 83) (option_map SetUp (set_up_of fs))
    (cond (letter == 73) (single_of (λ n. Issue (record { 0 = n })) fs)
    (cond (letter == 82) (single_of Read fs)
    (cond (letter == 87) (write_of fs)
    (cond (letter == 68) (deliver_of fs)
    (cond (letter == 79) (single_of CallOff fs)
    (cond (letter == 84) (single_of Collect fs)
    (cond (letter == 77) (meddle_of fs) None)))))))

-- what a letter and its fields ask for
abbrev pub command_of : List (List ℕ) → Option Command
command_of fs = asked (slice_index (field fs 0) 0) (drop 1 fs)

-- what the fields of a line ask for, if they can be read
abbrev pub command_in : List (List ℕ) → Option Command
command_in fs = given (line_of fs) command_of
