-- Which charges make a transcript.
use Rattle.std.proofs.Common.{◌≡◌, ℕ, ◌<◌, ◌≤◌, ◌^◌, List, [], ◌∷◌, length, None, refl, sym, subst, arith}
use Rattle.std.specs.List.{AllByRecursion}
use Rattle.phase_message.specs.Shape.{Shape, IsShape}
use Rattle.transcript_form.specs.declared.claim.Claim.{Claim}
use Rattle.transcript_form.specs.Claim.{claim_posts}
use Rattle.transcript_form.specs.Transcript.{HasDetail}
use Rattle.honest_say.proofs.StageLemmas.{member-there}
use Rattle.closing_verdict.specs.declared.convicting.Charge.{Charge}
use Rattle.closing_verdict.specs.Convicting.{IsCharge}

-- as many posts as the claim takes, in a group of a shape
pub is-charge : (shape : Shape) (charge : Charge) (posts : List (List ℕ)) → IsShape shape.version shape.members → 1 ≤ charge.accused
    → charge.accused ≤ shape.members → charge.round < 2 ^ 64
    → HasDetail charge.claim charge.detail → length posts ≡ claim_posts shape charge.claim
    → AllByRecursion (λ post. length post < 2 ^ 32) posts → IsCharge charge posts
is-charge shape charge posts is least most round detail count short = record {
  shape = shape;
  is_shape = is;
  fits = record {
    accused = member-there shape.members charge.accused least most;
    round = round;
    detail = detail;
    count = count;
    posts = short;
  };
}

-- a claim without an accusation
abbrev pub charge_of : Claim → ℕ → ℕ → Charge
charge_of claim accused round = record { claim = claim; accused = accused; round = round; detail = None }

abbrev eight : Shape
eight = record { version = 1; members = 8 }

eight-is : IsShape 1 8
eight-is = record { first = refl; least = omega arith; most = omega arith }

-- one post
pub one-charge : (claim : Claim) (accused round : ℕ) (charge : Charge) (posts : List (List ℕ)) (post : List ℕ)
    → charge ≡ charge_of claim accused round → posts ≡ post ∷ []
    → claim_posts eight claim ≡ 1 → HasDetail claim None → 1 ≤ accused → accused ≤ 8 → round < 2 ^ 64 → length post < 2 ^ 32
    → IsCharge charge posts
one-charge claim accused round charge posts post is are count detail least most early short =
    subst (λ (x : Charge). IsCharge x posts) (sym is) (subst (λ (xs : List (List ℕ)). IsCharge (charge_of claim accused round) xs) (sym are)
    (is-charge eight (charge_of claim accused round) (post ∷ []) eight-is least most early detail (sym count) (short, tt)))

-- two posts
pub two-charge : (claim : Claim) (accused round : ℕ) (charge : Charge) (posts : List (List ℕ)) (first second : List ℕ)
    → charge ≡ charge_of claim accused round → posts ≡ first ∷ second ∷ []
    → claim_posts eight claim ≡ 2 → HasDetail claim None → 1 ≤ accused → accused ≤ 8 → round < 2 ^ 64 → length first < 2 ^ 32
    → length second < 2 ^ 32 → IsCharge charge posts
two-charge claim accused round charge posts first second is are count detail least most early short also =
    subst (λ (x : Charge). IsCharge x posts) (sym is) (subst (λ (xs : List (List ℕ)). IsCharge (charge_of claim accused round) xs) (sym are)
    (is-charge eight (charge_of claim accused round) (first ∷ second ∷ []) eight-is least most early detail (sym count)
    (short, (also, tt))))
