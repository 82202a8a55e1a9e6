-- What `next_post` answers, as a run looks at it.
use Rattle.std.proofs.Common.{◌≡◌, ℕ, zero, suc, ◌+◌, ◌<◌, ◌≤◌, List, [], ◌∷◌, length, map, Option, Some, None, sym, ap, ◌∙◌, subst, arith}
use Rattle.std.specs.Prelude.{option_map, slice_get}
use Rattle.std.proofs.lemmas.Option.{slice_get-map}
use Rattle.phase_message.specs.declared.post.Post.{Post}
use Rattle.phase_message.specs.Post.{post_spelling}
use Rattle.member_core.specs.Membership.{Membership, handed_next, posts_made}
use Rattle.member_run.specs.Begun.{IsHandedOut, posts_left}

no-more : (posts : List Post) (n : ℕ) → None ≡ option_map post_spelling (slice_get posts n) → n ≤ length posts → n ≡ length posts
no-more [] n is within = omega (arith, within)
no-more (post ∷ posts) zero is within = absurd cc
no-more (post ∷ posts) (suc n) is within = ap suc (no-more posts n is (omega (arith, within)))

-- none is left
pub none-left : {A B : Type 0} (m m' : Membership A) (next : Option B) (bytes_of : B → List ℕ) → next ≡ None
    → option_map bytes_of next ≡ option_map post_spelling (slice_get (posts_made m.holds) m.holds.handed)
    → m.holds.handed ≤ length (posts_made m.holds) → m' ≡ handed_next m next → IsHandedOut m'
none-left {B = B} m m' next bytes_of none is within e =
    let same : m' ≡ m = e ∙ ap (λ (o : Option B). handed_next m o) none in
    subst IsHandedOut (sym same) (no-more (posts_made m.holds) m.holds.handed (sym (ap (option_map bytes_of) none) ∙ is) within)

-- one is left
one-of : (posts : List Post) (n : ℕ) (bytes : List ℕ) → Some bytes ≡ option_map post_spelling (slice_get posts n) → n < length posts
one-of [] n bytes is = absurd cc
one-of (post ∷ posts) zero bytes is = omega arith
one-of (post ∷ posts) (suc n) bytes is = (let lt = one-of posts n bytes is in omega (arith, lt))

pub fewer-left : {A B : Type 0} (m m' : Membership A) (post : B) (bytes : List ℕ)
    → Some bytes ≡ option_map post_spelling (slice_get (posts_made m.holds) m.holds.handed)
    → m' ≡ handed_next m (Some post) → posts_left m' < posts_left m
fewer-left {A = A} m m' post bytes is e =
    subst (λ (n : Membership A). posts_left n < posts_left m) (sym e) (let lt = one-of (posts_made m.holds) m.holds.handed bytes is in omega (arith, lt))

pub one-handed : {A B : Type 0} (m m' : Membership A) (post : B) → m' ≡ handed_next m (Some post) → m'.holds.handed ≡ m.holds.handed + 1
one-handed {A = A} m m' post e = ap (λ (n : Membership A). n.holds.handed) e

-- it is the next of those that are due
pub next-due : (posts : List Post) (n : ℕ) (bytes : List ℕ) → Some bytes ≡ option_map post_spelling (slice_get posts n)
    → slice_get (map post_spelling posts) n ≡ Some bytes
next-due posts n bytes is = slice_get-map post_spelling posts n ∙ sym is
