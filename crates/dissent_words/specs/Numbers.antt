-- What single words spell.
use Rattle.std.specs.Prelude.{ℕ, ◌^◌, nat_lt, nat_le, ◌&&◌, if◌then◌else◌, Option, Some, None, option_and_then, slice_index, bytes_eq, codes}
use Rattle.std.specs.Str.{all_ascii_digits}
use Rattle.std.specs.Str.Parse.{digits_value}
use Rattle.lm_ots.specs.declared.types.OtsType.{OtsType}
use Rattle.lm_ots.specs.declared.types.OtsType.TheVariants.{W1, W2, W4, W8}
use Rattle.lms_tree.specs.declared.secrets.MadeHeight.{MadeHeight}
use Rattle.lms_tree.specs.declared.secrets.MadeHeight.TheVariants.{H5, H10}
use Rattle.dissent_words.specs.Request.{Text}

-- the number below 2^64 that a word spells in decimal digits alone, of which the first is 0 only in 0 itself
abbrev pub number_of : Text → Option ℕ
number_of word =
    if bytes_eq word (codes "0") then Some 0 else
    (if nat_lt 48 (slice_index word 0) && all_ascii_digits word && nat_lt (digits_value 10 word) (2 ^ 64)
    then Some (digits_value 10 word) else None)

-- the number that a word spells, where it is from least to most
abbrev pub number_within : (least most : ℕ) → Text → Option ℕ
number_within least most word =
    option_and_then (λ n. if nat_le least n && nat_le n most then Some n else None) (number_of word)

-- the height that a word spells: 5 or 10
abbrev pub height_of : Text → Option MadeHeight
height_of word = if bytes_eq word (codes "5") then Some H5 else (if bytes_eq word (codes "10") then Some H10 else None)

-- the width that a word spells: 1, 2, 4 or 8
abbrev pub width_of : Text → Option OtsType
width_of word =
    if bytes_eq word (codes "1") then Some W1 else (if bytes_eq word (codes "2") then Some W2 else
    (if bytes_eq word (codes "4") then Some W4 else (if bytes_eq word (codes "8") then Some W8 else None)))
