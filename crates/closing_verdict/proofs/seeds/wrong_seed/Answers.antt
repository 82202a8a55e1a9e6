use Rattle.std.proofs.Common.{◌≡◌, ℕ, ◌+◌, List, [], Bool, true, false, Some, None, get_or, length, sym, ap, ◌∙◌, arith, rules}
use Rattle.std.specs.Prelude.{◌↔◌, IsTrue, bytes_eq}
use Rattle.std.proofs.lemmas.Bool.{cond-false, false_from_ne_true}
use Rattle.std.proofs.lemmas.List.{get_or_read}
use Rattle.std.proofs.lemmas.Slice.Eq.{bytes_eq-Decides}
use Rattle.wire_core.proofs.AnswerLemmas.{first_below-none, first_below-some}
use Rattle.ring_encrypt.specs.Capsule.{key_of_seed}
use Rattle.closing_verdict.specs.Telling.{wrong_at}
use Rattle.closing_verdict.proofs.seeds.wrong_seed.Goals as goal

-- a key that is not that of the seed
wrong-here : (seeds keys : List (List ℕ)) (place : ℕ) (seed key : List ℕ) (right : Bool) → seed ≡ get_or seeds place []
    → key ≡ get_or keys place []
    → IsTrue right ↔ (key ≡ key_of_seed seed) → right ≡ false → wrong_at seeds keys place ≡ Some (place + 1)
wrong-here seeds keys place seed key right seed_is key_is decides other =
    let made : List ℕ = key_of_seed (get_or seeds place []) in
    let said : List ℕ = get_or keys place [] in
    cond-false (bytes_eq (key_of_seed (get_or seeds place [])) (get_or keys place [])) None (Some (place + 1))
    (false_from_ne_true (bytes_eq (key_of_seed (get_or seeds place [])) (get_or keys place [])) (λ same.
    let equal = (bytes_eq-Decides (key_of_seed (get_or seeds place [])) (get_or keys place [])).0 same in
    let is : right ≡ true = decides.1 (key_is ∙ sym equal ∙ ap key_of_seed (sym seed_is)) in
    cc))

pub returns-then-not-is_key_of : goal.returns-then-not-is_key_of
returns-then-not-is_key_of c =
    sym (first_below-some (wrong_at c.args.seeds.now c.args.keys.now) (length c.args.seeds.now) c.loop-place.place (c.loop-place.place + 1)
    (omega (arith, c.loop-place-test.true)) c.loop-place.invariant
    (wrong-here c.args.seeds.now c.args.keys.now c.loop-place.place _ _ c.is_key_of.result (search rules)
    (get_or_read c.args.keys.now c.loop-place.place c.index-keys-place.result
    (let count = c.requires.count in omega (arith, c.loop-place-test.true)) c.index-keys-place.is []) c.is_key_of.ensures
    (search rules)))

pub returns : goal.returns
returns c = sym (first_below-none (wrong_at c.args.seeds.now c.args.keys.now) (length c.args.seeds.now)
    (λ k lt. c.loop-place.invariant k (omega (arith, c.loop-place-test.false))))
