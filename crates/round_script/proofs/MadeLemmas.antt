-- The messages of a made script, and that it is a script.
use Rattle.std.proofs.Common.{◌≡◌, ℕ, zero, suc, ◌+◌, ◌%◌, ◌<◌, ◌≤◌, List, [], ◌∷◌, ◌++◌, map, sym, ap, subst, refl, mod-lt, ◌∙◌, arith}
use Rattle.std.specs.Prelude.{slice_index}
use Rattle.std.specs.Int.{w32, w64, to_be_bytes, to_le_bytes}
use Rattle.std.specs.List.{AllByRecursion, range_with_len}
use Rattle.std.proofs.lemmas.List.FromFn.{length-map-range_with_len, map-range_with_len_more}
use Rattle.pad_stream.specs.Stream.{byte_of, bytes_from, stream_of}
use Rattle.pad_stream.proofs.StreamLemmas.{length-bytes_from}
use Rattle.wire_core.specs.Bytes.{IsBytes}
use Rattle.wire_core.specs.Hash.{hash_of}
use Rattle.wire_core.specs.declared.tag.Tag.TheVariants.{MakeSeed, MakeMessage}
use Rattle.wire_core.proofs.ByteLists.{hash_bytes}
use Rattle.round_script.specs.declared.fault.Fault.{Fault}
use Rattle.round_script.specs.declared.fault.Fault.TheVariants.{None as Honest, Silent, Malformed, TwoVotes, CopySubmit, DropEntry, FalseAbort, FalseNogo, FalseView, WrongSeed, BadVotes, FlipPad, BadDescriptor}
use Rattle.round_script.specs.declared.script.FaultLine.{FaultLine}
use Rattle.round_script.specs.declared.script.TheConstants.{MESSAGE_LIMIT}
use Rattle.round_script.specs.Made.{made_faults, made_message, made_script}
use Rattle.round_script.specs.Script.{IsMessage, IsScript, Rise}

-- one more message
pub messages_more : (f : ℕ → List ℕ) (items new : List (List ℕ)) (i : ℕ) (x : List ℕ) → items ≡ map f (range_with_len 1 i)
    → x ≡ f (i + 1) → new ≡ items ++ x ∷ [] → new ≡ map f (range_with_len 1 (i + 1))
messages_more f items new i x so_far is more =
    more ∙ ap (λ (xs : List (List ℕ)). xs ++ x ∷ []) so_far ∙ ap (λ (y : List ℕ). map f (range_with_len 1 i) ++ y ∷ []) is
    ∙ sym (map-range_with_len_more f 1 i (i + 1) (omega arith))

-- a byte of a number
byte_small : (n place : ℕ) → slice_index (to_le_bytes w32 n) place < 256
byte_small n zero = omega arith
byte_small n (suc zero) = omega arith
byte_small n (suc (suc zero)) = omega arith
byte_small n (suc (suc (suc zero))) = omega arith
byte_small n (suc (suc (suc (suc place)))) = omega arith

-- what is drawn is bytes
drawn_bytes : (key : List ℕ) (place count : ℕ) → IsBytes (map (byte_of key) (range_with_len place count))
unfolding byte_of
drawn_bytes key place zero i = omega arith
drawn_bytes key place (suc count) zero = byte_small _ (place % 4)
drawn_bytes key place (suc count) (suc i) = drawn_bytes key (place + 1) count i

stream_bytes : (key : List ℕ) (count : ℕ) → IsBytes (stream_of key count)
unfolding bytes_from
stream_bytes key count = drawn_bytes key 0 count

-- messages of at most the limit are messages
made_messages : (number size first count : ℕ) → size ≤ MESSAGE_LIMIT
    → AllByRecursion IsMessage (map (made_message number size) (range_with_len first count))
made_messages number size first zero short = tt {0}
made_messages number size first (suc count) short =
    let key = hash_of MakeMessage (to_be_bytes w64 number ∷ (first ∷ []) ∷ []) in (
      (omega (arith, short, length-bytes_from key 0 size), stream_bytes key size),
      made_messages number size (first + 1) count short,
    )

-- the faulty member is one of the group
one_rises : (number members : ℕ) → 2 ≤ members → Rise 1 (members + 1) ((1 + number % members) ∷ [])
one_rises number members least = (omega arith, omega (arith, mod-lt number {m = members} (omega arith)), tt {0})

made_rise : (number members : ℕ) (fault : Fault) → 2 ≤ members → Rise 1 (members + 1)
    (map (λ (line : FaultLine). line.member) (made_faults number members fault))
made_rise number members Honest least = tt {0}
made_rise number members Silent least = one_rises number members least
made_rise number members Malformed least = one_rises number members least
made_rise number members TwoVotes least = one_rises number members least
made_rise number members CopySubmit least = one_rises number members least
made_rise number members DropEntry least = one_rises number members least
made_rise number members FalseAbort least = one_rises number members least
made_rise number members FalseNogo least = one_rises number members least
made_rise number members FalseView least = one_rises number members least
made_rise number members WrongSeed least = one_rises number members least
made_rise number members BadVotes least = one_rises number members least
made_rise number members FlipPad least = one_rises number members least
made_rise number members BadDescriptor least = one_rises number members least

-- what is made is a script
pub made_is : (number members size : ℕ) (fault : Fault) → 2 ≤ members → members ≤ 8 → size ≤ MESSAGE_LIMIT
    → IsScript (made_script number members size fault)
made_is number members size fault least most short =
    let count = length-map-range_with_len (made_message number size) 1 members in
    let seed = hash_bytes MakeSeed (to_be_bytes w64 number ∷ []) in
    record {
      version = refl;
      least = omega (arith, count);
      most = omega (arith, count);
      round_least = omega arith;
      round_most = omega arith;
      seed = seed.0;
      seed_bytes = seed.1;
      messages = made_messages number size 1 members short;
      faults = subst (λ (n : ℕ). Rise 1 (n + 1) (map (λ (line : FaultLine). line.member) (made_faults number members fault))) (sym count)
          (made_rise number members fault least);
      drops = tt {0};
      order = tt {0};
      repeat = tt {0};
    }
