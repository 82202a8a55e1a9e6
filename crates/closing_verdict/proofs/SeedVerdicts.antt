-- The least member whose revealed seed is not that of its inner key.
use Rattle.std.proofs.Common.{◌≡◌, ℕ, ◌+◌, ◌<◌, ◌≤◌, Bool, true, false, List, [], get_or, map, Option, Some, None, refl, ap, sym, ◌∙◌, arith}
use Rattle.std.specs.Prelude.{◌==◌, bytes_eq, option_map, unwrap_or, if◌then◌else◌}
use Rattle.std.proofs.lemmas.Bool.{cond-false, cond-true, eq-eqb, ne_eqb}
use Rattle.std.proofs.lemmas.List.FromFn.{get_or-map-range_with_len}
use Rattle.wire_core.specs.Answers.{first_below}
use Rattle.wire_core.proofs.AnswerLemmas.{first_below-each, first_below-found, first_below-none, first_below-some}
use Rattle.ring_encrypt.specs.Capsule.{key_of_seed}
use Rattle.phase_message.specs.declared.stage.StageKind.TheVariants.{Final as AtFinal}
use Rattle.phase_message.specs.Shape.{Shape}
use Rattle.shuffle_blame.specs.Asked.{past_of}
use Rattle.round_spec.specs.Slots.{by_member, final_stage, inner_place, key_said, keys_said, said_in, seed_in, seeds_revealed}
use Rattle.round_spec.specs.Verdict.{ClosedStage, Verdict, Goes, Done, agreed_at, closing_body, first_bad_pad, is_inner_seed, past_at, shape_at, wrong_seed, wrong_seed_of}
use Rattle.closing_verdict.specs.declared.reading.Told.{Told}
use Rattle.closing_verdict.specs.Closed.{AreTold}
use Rattle.closing_verdict.specs.Judgement.{Completed, IsComplete, stage_closed}
use Rattle.closing_verdict.specs.Telling.{seed_conviction, seed_told, wrong_at}
use Rattle.closing_verdict.proofs.Agreements.{seeds-told}
use Rattle.closing_verdict.proofs.Carrying.{keys-now}

-- ---- the first of answers told in other words

first-mapped : {A B : Type 0} (f : A → B) (g : ℕ → Option A) (h : ℕ → Option B) (n : ℕ) → ((k : ℕ) → k < n → h k ≡ option_map f (g k))
    → first_below n h ≡ option_map f (first_below n g)
first-mapped {A} {B} f g h n same = by_first (first_below n g) refl ∙ refl
  where
    by_first : (o : Option A) → first_below n g ≡ o → first_below n h ≡ option_map f (first_below n g)
    by_first None e = first_below-none h n (λ k lt. same k lt ∙ ap (option_map f) (first_below-each g n e k lt)) ∙ sym (ap (option_map f) e)
    by_first (Some x) e =
        let found = first_below-found g n x e in
        let lt = found.1 in
        first_below-some h n found.0 (f x) lt (λ j before_it. same j (omega (arith, lt)) ∙ ap (option_map f) (found.3 j before_it))
        (same found.0 lt ∙ ap (option_map f) found.2)
        ∙ sym (ap (option_map f) e)

mapped-if : {A B : Type 0} (f : A → B) (b : Bool) (x : A) → (if b then None else Some (f x)) ≡ option_map f (if b then None else Some x)
mapped-if f true x = refl
mapped-if f false x = refl

-- ---- the member

-- who is told is a member
pub wrong-member : (seeds keys : List (List ℕ)) (n member : ℕ) → first_below n (wrong_at seeds keys) ≡ Some member → (1 ≤ member)
    × (member ≤ n)
wrong-member seeds keys n member e =
    let found = first_below-found (wrong_at seeds keys) n member e in
    let lt = found.1 in
    let is : member ≡ found.0 + 1 = by_test (bytes_eq (key_of_seed (get_or seeds found.0 [])) (get_or keys found.0 [])) found.0 found.2 in
    (omega (arith, is), omega (arith, is, lt))
  where
    by_test : (b : Bool) (place : ℕ) → (if b then None else Some (place + 1)) ≡ Some member → member ≡ place + 1
    by_test true place e = absurd cc
    by_test false place e = (let same = e in cc)

same-test : (v : ClosedStage) (seed key : List ℕ) (shuffle place : ℕ) → seed ≡ seed_in (closing_body v (place + 1))
    → key ≡ key_said (shape_at v) (past_at v) (inner_place shuffle) (place + 1)
    → wrong_seed_of v shuffle (place + 1) ≡ option_map (seed_conviction v)
    (if bytes_eq (key_of_seed seed) key then None else Some (place + 1))
same-test v seed key shuffle place seed_is key_is =
    mapped-if (seed_conviction v) (is_inner_seed v shuffle (place + 1)) (place + 1)
    ∙ ap (λ (b : Bool). option_map (seed_conviction v) (if b then None else Some (place + 1)))
    (ap (λ (s : List ℕ). bytes_eq (key_of_seed s) (key_said (shape_at v) (past_at v) (inner_place shuffle) (place + 1))) (sym seed_is)
    ∙ ap (λ (k : List ℕ). bytes_eq (key_of_seed seed) k) (sym key_is))

-- the verdict on seeds is told by seeds and keys
wrong-is : (v : ClosedStage) (seeds keys : List (List ℕ)) (shuffle : ℕ)
    → seeds ≡ by_member (shape_at v) (λ member. seed_in (closing_body v member))
    → keys ≡ keys_said (shape_at v) (past_at v) (inner_place shuffle)
    → wrong_seed v shuffle ≡ option_map (seed_conviction v) (first_below (shape_at v).members (wrong_at seeds keys))
unfolding wrong_seed
wrong-is v seeds keys shuffle are said =
    first-mapped (seed_conviction v) (wrong_at seeds keys) (λ place. wrong_seed_of v shuffle (place + 1)) (shape_at v).members (λ place lt.
    same-test v (get_or seeds place []) (get_or keys place []) shuffle place
    (ap (λ (t : List (List ℕ)). get_or t place []) are ∙ get_or-map-range_with_len (λ member. seed_in (closing_body v member)) 1
    (shape_at v).members place (place + 1) [] lt (omega arith))
    (ap (λ (t : List (List ℕ)). get_or t place []) said ∙ get_or-map-range_with_len
    (key_said (shape_at v) (past_at v) (inner_place shuffle)) 1 (shape_at v).members place (place + 1) [] lt (omega arith)))

pub wrong-told : (c : Completed) (told : List Told) (seeds keys : List (List ℕ)) (shuffle count : ℕ) (found : Option ℕ) → IsComplete c
    → AreTold c told → 1 ≤ c.stage
    → seeds ≡ map seed_told told → keys ≡ keys_said c.log.shape (past_of c.log 1) (inner_place shuffle) → count ≡ c.log.shape.members
    → found ≡ first_below count (wrong_at seeds keys)
    → wrong_seed (stage_closed c) shuffle ≡ option_map (seed_conviction (stage_closed c)) found
wrong-told c told seeds keys shuffle count found is are late seeds_are keys_are many is_found =
    let v : ClosedStage = stage_closed c in
    wrong-is v seeds keys shuffle
    (seeds_are ∙ seeds-told c told are ∙ ap (λ (shape : Shape). by_member shape (λ member. seed_in (closing_body v member))) is.shape)
    (keys_are ∙ keys-now c (inner_place shuffle) is late ∙ ap (λ (shape : Shape). keys_said shape (past_at v) (inner_place shuffle))
    is.shape)
    ∙ ap (option_map (seed_conviction v)) (ap (λ (n : ℕ). first_below n (wrong_at seeds keys))
    (sym (many ∙ ap (λ (shape : Shape). shape.members) is.shape)) ∙ sym is_found)

-- ---- what it comes to

-- the seeds are those that were revealed at the end of the shuffle
pub seeds-are : (c : Completed) (told : List Told) (seeds : List (List ℕ)) (shuffle : ℕ) → IsComplete c → AreTold c told
    → seeds ≡ map seed_told told → c.stage ≡ final_stage c.log.shape shuffle
    → seeds ≡ seeds_revealed c.log.shape (past_of c.log (c.stage + 1)) shuffle
seeds-are c told seeds shuffle is are seeds_are at =
    seeds_are ∙ seeds-told c told are
    ∙ ap (λ (shape : Shape). by_member c.log.shape (λ member. seed_in (said_in shape (past_of c.log (c.stage + 1)) c.stage member)))
    (sym is.shape)
    ∙ ap (λ (stage : ℕ). by_member c.log.shape (λ member. seed_in (said_in c.log.shape (past_of c.log (c.stage + 1)) stage member))) at

-- a wrong seed
pub seed-convicts : (v : ClosedStage) (verdict : Verdict) (shuffle member : ℕ) (found : Option ℕ)
    → verdict ≡ agreed_at v (Some (AtFinal shuffle))
    → wrong_seed v shuffle ≡ option_map (seed_conviction v) found → found ≡ Some member → verdict ≡ seed_conviction v member
seed-convicts v verdict shuffle member found is wrong some =
    is ∙ ap (λ (o : Option Verdict). unwrap_or o (if shuffle == 1 then Goes else unwrap_or (first_bad_pad v) Done))
    (wrong ∙ ap (option_map (seed_conviction v)) some)

right-seeds : (v : ClosedStage) (verdict : Verdict) (shuffle : ℕ) (found : Option ℕ) → verdict ≡ agreed_at v (Some (AtFinal shuffle))
    → wrong_seed v shuffle ≡ option_map (seed_conviction v) found → found ≡ None
    → verdict ≡ (if shuffle == 1 then Goes else unwrap_or (first_bad_pad v) Done)
right-seeds v verdict shuffle found is wrong none =
    is ∙ ap (λ (o : Option Verdict). unwrap_or o (if shuffle == 1 then Goes else unwrap_or (first_bad_pad v) Done))
    (wrong ∙ ap (option_map (seed_conviction v)) none)

-- none in shuffle A
pub first-goes : (v : ClosedStage) (verdict : Verdict) (shuffle : ℕ) (found : Option ℕ) → verdict ≡ agreed_at v (Some (AtFinal shuffle))
    → wrong_seed v shuffle ≡ option_map (seed_conviction v) found → found ≡ None → shuffle ≡ 1 → verdict ≡ Goes
first-goes v verdict shuffle found is wrong none first =
    right-seeds v verdict shuffle found is wrong none ∙ cond-true (shuffle == 1) Goes (unwrap_or (first_bad_pad v) Done)
    (eq-eqb shuffle 1 first)

-- none in shuffle B
pub second-comes : (v : ClosedStage) (verdict : Verdict) (shuffle : ℕ) (found : Option ℕ) → verdict ≡ agreed_at v (Some (AtFinal shuffle))
    → wrong_seed v shuffle ≡ option_map (seed_conviction v) found → found ≡ None → (shuffle ≡ 1 → ⊥)
    → verdict ≡ unwrap_or (first_bad_pad v) Done
second-comes v verdict shuffle found is wrong none second =
    right-seeds v verdict shuffle found is wrong none ∙ cond-false (shuffle == 1) Goes (unwrap_or (first_bad_pad v) Done)
    (ne_eqb shuffle 1 second)
