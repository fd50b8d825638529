-- Records by their bytes, computed. Assumes nothing.
use mathlib.Core.Path.{◌≡◌, refl}
use mathlib.Core.List.{[], ◌∷◌, ◌++◌}
use lib.Count.{ones_in, ones}
use lib.ListN.{replicate}
use Rattle.certificates.specs.Numbers.{zero_hash}
use Rattle.certificates.specs.declared.messages.QC.{QC}
use Rattle.outputs.specs.Fields.{digits, hash_bytes, bytes_of}
use Rattle.outputs.specs.Records.{timer_reset, make, tc, answer, qc_fields, places_from, places_of, entries, tc_fields, framed, body_of, enc, enc_all}

genesis : QC
genesis = record { hash = zero_hash; round = record { 0 = 0 }; signers = record { 0 = 0 } }

-- 01, Bench readings: "START, own place 1, whole: `02 00 09 01`, `3B 00 04 01 01` then 56 zero bytes, `04 00 0A 01 00 00`; 71 bytes."
start-whole : enc_all (timer_reset ∷ make 1 genesis ∷ answer 0 ∷ [])
    ≡ 0x02 ∷ 0x00 ∷ 0x09 ∷ 0x01 ∷ 0x3B ∷ 0x00 ∷ 0x04 ∷ 0x01 ∷ 0x01 ∷ replicate 56 0 ++ 0x04 ∷ 0x00 ∷ 0x0A ∷ 0x01 ∷ 0x00 ∷ 0x00 ∷ []
unfolding enc_all enc framed body_of qc_fields bytes_of hash_bytes digits genesis
start-whole = refl

-- a TC of round 4 by the places 0 and 2, with the high rounds 3 and 1: the entry of place 1 is passed over
tc-whole : enc (tc 4 5 (3 ∷ 9 ∷ 1 ∷ []))
    ≡ 32 ∷ 0 ∷ 0x03 ∷ 0x01 ∷ digits 8 4 ++ (2 ∷ 0 ∷ []) ++ (0 ∷ 0 ∷ digits 8 3) ++ (2 ∷ 0 ∷ digits 8 1)
unfolding enc framed body_of tc_fields places_from places_of entries bytes_of digits ones_in ones
tc-whole = refl
