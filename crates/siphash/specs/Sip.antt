-- SipHash-2-4: two rounds for each word of the message, four at the end.
use Rattle.std.specs.Prelude.{ℕ, ◌+◌, ◌-◌, ◌*◌, ◌/◌, ◌%◌, ◌^◌, List, fold, bit_or, bit_xor}
use Rattle.siphash.specs.declared.State.{State}
use Rattle.siphash.specs.Words.{message_words}

-- the sum of two words
abbrev pub plus : ℕ → ℕ → ℕ
plus x y = (x + y) % 2 ^ 64

-- a word turned left by k bits
abbrev pub turned : ℕ → ℕ → ℕ
turned x k = bit_or ((x * 2 ^ k) % 2 ^ 64) (x / 2 ^ (64 - k))

-- the state that a key begins with
abbrev pub started : ℕ → ℕ → State
started low high =
    record {
      v0 = bit_xor low 0x736f6d6570736575;
      v1 = bit_xor high 0x646f72616e646f6d;
      v2 = bit_xor low 0x6c7967656e657261;
      v3 = bit_xor high 0x7465646279746573;
    }

-- one round; a and b are the words after its first and its second half
unfoldable pub sip_round : State → State
sip_round s =
    let a0 = plus s.v0 s.v1 in
    let a2 = plus s.v2 s.v3 in
    let a1 = bit_xor (turned s.v1 13) a0 in
    let a3 = bit_xor (turned s.v3 16) a2 in
    let b2 = plus a2 a1 in
    let b0 = plus (turned a0 32) a3 in
    let b1 = bit_xor (turned a1 17) b2 in
    let b3 = bit_xor (turned a3 21) b0 in
    record { v0 = b0; v1 = b1; v2 = turned b2 32; v3 = b3 }

-- a state with a word of the message taken in
abbrev pub absorbed : State → ℕ → State
absorbed s m =
    let t = sip_round (sip_round (record { v0 = s.v0; v1 = s.v1; v2 = s.v2; v3 = bit_xor s.v3 m })) in
    record { v0 = bit_xor t.v0 m; v1 = t.v1; v2 = t.v2; v3 = t.v3 }

-- the hash that a state gives at the end
abbrev pub finished : State → ℕ
finished s =
    let t = sip_round (sip_round (sip_round (sip_round (record { v0 = s.v0; v1 = s.v1; v2 = bit_xor s.v2 0xff; v3 = s.v3 })))) in
    bit_xor (bit_xor (bit_xor t.v0 t.v1) t.v2) t.v3

-- the hash of a message under a key, whose first eight bytes write low, and the others high: its words are taken in one by one
unfoldable pub sip_hash : ℕ → ℕ → List ℕ → ℕ
sip_hash low high message = finished (fold absorbed (started low high) (message_words message))
