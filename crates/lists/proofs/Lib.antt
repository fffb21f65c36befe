-- Facts of plain lists that the proofs share.
pub mod Changes
