-- Claims and their numbers.
use Rattle.std.proofs.Common.{◌≡◌, ℕ, zero, suc, ◌<◌, ◌≤◌, ◌^◌, Option, Some, None, refl, sym, ap, ◌∙◌, arith}
use Rattle.phase_message.specs.Shape.{Shape, IsShape}
use Rattle.transcript_form.specs.declared.claim.Claim.{Claim}
use Rattle.transcript_form.specs.declared.claim.Claim.TheVariants.{Equivocation, Malformed, WrongSeed, BadLog, Replay, Pad}
use Rattle.transcript_form.specs.Claim.{claim_number, claim_of, claim_posts, NumbersAreClaims}

-- the claim of a claim's number is that claim
pub claim_of-number : (claim : Claim) → claim_of (claim_number claim) ≡ Some claim
claim_of-number Equivocation = refl
claim_of-number Malformed = refl
claim_of-number WrongSeed = refl
claim_of-number BadLog = refl
claim_of-number Replay = refl
claim_of-number Pad = refl

some : Claim → Option Claim
some claim = Some claim

same : (a b : Claim) → Some a ≡ Some b → claim_number a ≡ claim_number b
same a b e = let inner : a ≡ b = cc in ap claim_number inner

-- a number that has a claim is that claim's
pub claim_of-found : (number : ℕ) (claim : Claim) → claim_of number ≡ Some claim → number ≡ claim_number claim
claim_of-found zero claim e = absurd cc
claim_of-found (suc zero) claim e = same Equivocation claim e
claim_of-found (suc (suc zero)) claim e = same Malformed claim e
claim_of-found (suc (suc (suc zero))) claim e = same WrongSeed claim e
claim_of-found (suc (suc (suc (suc zero)))) claim e = same BadLog claim e
claim_of-found (suc (suc (suc (suc (suc zero))))) claim e = same Replay claim e
claim_of-found (suc (suc (suc (suc (suc (suc zero)))))) claim e = same Pad claim e
claim_of-found (suc (suc (suc (suc (suc (suc (suc k))))))) claim e = absurd cc

pub numbers_are_claims : NumbersAreClaims
numbers_are_claims number claim = (claim_of-found number claim, λ e. ap claim_of e ∙ claim_of-number claim)

-- a claim takes at most 41 posts
pub claim_posts-most : (shape : Shape) (claim : Claim) → IsShape shape.version shape.members → claim_posts shape claim ≤ 41
claim_posts-most shape Equivocation is = omega arith
claim_posts-most shape Malformed is = omega arith
claim_posts-most shape WrongSeed is = omega arith
claim_posts-most shape BadLog is = omega arith
claim_posts-most shape Replay is = omega (arith, is.most)
claim_posts-most shape Pad is = omega (arith, is.most)
