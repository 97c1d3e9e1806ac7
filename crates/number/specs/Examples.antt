-- Case I of 01, of one number: 00 is 0; 80 00 gives 3; 81 at the end 2; FF FF 03 is 65535; 80 80 04 is 65536.
use Rattle.std.specs.Prelude.{◌≡◌, [], ◌∷◌}
use Rattle.refusal.specs.declared.Reason.TheVariants.{Ends, Groups}
use Rattle.number.specs.Readers.{found, refused}
use Rattle.number.specs.Numbers.{number, encode}

-- 01's case I, with the longest form that is 3 and two numbers written
abbrev pub Examples : Type 0
Examples =
    (number 3 (0x00 ∷ []) 0 ≡ found 0 1)
    × (number 3 (0x80 ∷ 0x00 ∷ []) 0 ≡ refused Groups)
    × (number 3 (0x81 ∷ []) 0 ≡ refused Ends)
    × (number 3 (0xFF ∷ 0xFF ∷ 0x03 ∷ []) 0 ≡ found 65535 3)
    × (number 3 (0x80 ∷ 0x80 ∷ 0x04 ∷ []) 0 ≡ found 65536 3)
    × (number 3 (0x80 ∷ 0x80 ∷ 0x80 ∷ []) 0 ≡ refused Groups)
    × (encode 65535 ≡ 0xFF ∷ 0xFF ∷ 0x03 ∷ [])
    × (encode 0 ≡ 0x00 ∷ [])
