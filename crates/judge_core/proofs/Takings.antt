-- Taking the listed posts one after the other.
use Rattle.std.proofs.Common.{◌≡◌, ℕ, ◌+◌, ◌<◌, ◌≤◌, ◌^◌, Bool, false, List, [], ◌∷◌, ◌++◌, length, map, Option, Some, None, Result, Ok, Err, refl, sym, ap, ◌∙◌, arith, append_assoc, append-nil}
use Rattle.std.specs.Prelude.{All, unwrap_or}
use Rattle.std.proofs.lemmas.List.{map-append}
use Rattle.wire_core.specs.Reading.{◌>>=◌}
use Rattle.phase_message.specs.declared.header.Header.{Header}
use Rattle.judge_core.specs.declared.failed_check.FailedCheck.{FailedCheck}
use Rattle.judge_core.specs.declared.hearing.Said.{Said as GivenSaid}
use Rattle.judge_core.specs.Case.{Case, Said, said_of}
use Rattle.judge_core.specs.Checks.{hearing_of, taken_of}

abbrev list_ok : List Said → Result (List Said) FailedCheck
list_ok said = Ok said

-- what was taken so far, what is left of the posts, and whether room for something was lost
pub record Takes (case : Case) (posts left : List (List ℕ)) (first : Option Header) (number : ℕ) (lost : Bool) (kept : List GivenSaid) :
    Type 0 where
  pub done : List Said
  pub so_far : hearing_of case None 1 posts ≡ (hearing_of case first number left >>= λ others. list_ok (done ++ others))
  pub from_one : 1 ≤ number
  pub counted : number + length left ≡ 1 + length posts
  pub whole : lost ≡ false → map said_of kept ≡ done
  pub short : All (λ (one : GivenSaid). length one.content.now < 2 ^ 32) kept

pub takes-none : (case : Case) (posts : List (List ℕ)) → Takes case posts posts None 1 false []
takes-none case posts = record {
  done = [];
  so_far = same (hearing_of case None 1 posts);
  from_one = omega arith;
  counted = refl;
  whole = λ e. refl;
  short = λ k x lt. absurd (omega arith);
}
  where
    same : (r : Result (List Said) FailedCheck) → r ≡ (r >>= λ others. list_ok ([] ++ others))
    same (Ok others) = refl
    same (Err e) = refl

-- a post that is not taken ends it
pub takes-fails : (case : Case) (posts left : List (List ℕ)) (post : List ℕ) (rest : List (List ℕ)) (first : Option Header) (number : ℕ)
    (lost : Bool) (kept : List GivenSaid) (e : FailedCheck)
    → Takes case posts left first number lost kept → left ≡ post ∷ rest → taken_of case first number post ≡ Err e
    → hearing_of case None 1 posts ≡ Err e
unfolding hearing_of
takes-fails case posts left post rest first number lost kept e so is failed =
    so.so_far ∙ ap (λ (l : List (List ℕ)). hearing_of case first number l >>= λ others. list_ok (so.done ++ others)) is ∙ rw failed refl

-- and one that is taken goes on
pub takes-next : (case : Case) (posts left : List (List ℕ)) (post : List ℕ) (rest : List (List ℕ)) (first next : Option Header) (number : ℕ)
    (lost now : Bool) (kept more : List GivenSaid) (given : GivenSaid)
    → Takes case posts left first number lost kept → left ≡ post ∷ rest → taken_of case first number post ≡ Ok (said_of given)
    → length given.content.now < 2 ^ 32 → next ≡ Some (unwrap_or first given.header)
    → (now ≡ false → (lost ≡ false) × (more ≡ kept ++ given ∷ [])) → All (λ (one : GivenSaid). length one.content.now < 2 ^ 32) more
    → Takes case posts rest next (number + 1) now more
unfolding hearing_of
takes-next case posts left post rest first next number lost now kept more given so is taken short header pushed shorts =
    let said : Said = said_of given in
    let rest_from : Option Header → Result (List Said) FailedCheck = λ h. hearing_of case h (number + 1) rest in
    let opened : hearing_of case first number (post ∷ rest) ≡ (taken_of case first number post >>= λ said. rest_from
    (Some (unwrap_or first said.header)) >>= λ others. list_ok (said ∷ others)) = refl in
    let heard : hearing_of case first number (post ∷ rest) ≡ (rest_from (Some (unwrap_or first given.header)) >>= λ others. list_ok
    (said ∷ others)) =
    opened ∙ ap (λ (t : Result Said FailedCheck). t >>= λ said. rest_from (Some (unwrap_or first said.header)) >>= λ others. list_ok
    (said ∷ others)) taken in
    record {
      done = so.done ++ said ∷ [];
      so_far = so.so_far ∙ ap (λ (l : List (List ℕ)). hearing_of case first number l >>= λ others. list_ok (so.done ++ others)) is
          ∙ ap (λ (r : Result (List Said) FailedCheck). r >>= λ others. list_ok (so.done ++ others)) heard
          ∙ joined (rest_from (Some (unwrap_or first given.header)))
          ∙ ap (λ (h : Option Header). hearing_of case h (number + 1) rest >>= λ others. list_ok ((so.done ++ said ∷ []) ++ others))
          (sym header);
      from_one = omega (arith, so.from_one);
      counted = omega (arith, so.counted, ap (λ (l : List (List ℕ)). length l) is);
      whole = λ e.
          let there = pushed e in
          ap (map said_of) there.1 ∙ map-append said_of kept (given ∷ []) ∙ ap (λ (d : List Said). d ++ said ∷ []) (so.whole there.0);
      short = shorts;
    }
  where
    joined : (r : Result (List Said) FailedCheck) → ((r >>= λ others. list_ok (said_of given ∷ others)) >>= λ others. list_ok
        (so.done ++ others)) ≡ (r >>= λ others. list_ok ((so.done ++ said_of given ∷ []) ++ others))
    joined (Ok others) = ap list_ok (sym (append_assoc so.done (said_of given ∷ []) others))
    joined (Err e) = refl

-- where nothing is left, all are taken
pub takes-all : (case : Case) (posts left : List (List ℕ)) (first : Option Header) (number : ℕ) (lost : Bool) (kept : List GivenSaid)
    (so : Takes case posts left first number lost kept) → left ≡ [] → hearing_of case None 1 posts ≡ Ok so.done
unfolding hearing_of
takes-all case posts left first number lost kept so is =
    so.so_far ∙ ap (λ (l : List (List ℕ)). hearing_of case first number l >>= λ others. list_ok (so.done ++ others)) is
    ∙ ap list_ok (append-nil so.done)
