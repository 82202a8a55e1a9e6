-- Posts where they lie: the first of them, and that what is read lies there.
use Rattle.std.proofs.Common.{◌≡◌, ℕ, zero, suc, ◌+◌, ◌-◌, ◌*◌, ◌<◌, ◌≤◌, List, [], ◌∷◌, length, take, drop, get_or, Result, Ok, refl, sym, ap, subst, ◌∙◌, arith, length-append}
use Rattle.std.specs.Int.{w32, from_be_bytes}
use Rattle.wire_core.specs.declared.cursor.Short.{Short}
use Rattle.wire_core.specs.Reading.{Reading, ◌>>=◌, advanced, bytes_at, number_at, repeated}
use Rattle.wire_core.proofs.Readings.{bind_ok, fault_as_ok, bytes_at-takes, bytes_at-enough}
use Rattle.transcript_form.specs.declared.refusal.FailedForm.{FailedForm}
use Rattle.transcript_form.specs.declared.refusal.FailedForm.TheVariants.{Form}
use Rattle.transcript_form.specs.Form.{or_cut, listed_at}
use Rattle.transcript_form.specs.Listed.{first_length, behind_first, PostsLie, posts_of}

-- the number of the first four bytes
pub first_length-is : (front bytes : List ℕ) (n : ℕ) → front ≡ take 4 bytes → 4 ≤ length bytes
    → n ≡ get_or front 0 0 * 16777216 + get_or front 1 0 * 65536 + get_or front 2 0 * 256 + get_or front 3 0 → n ≡ first_length bytes
first_length-is front (a ∷ b ∷ c ∷ d ∷ rest) n e enough is = let f : front ≡ a ∷ b ∷ c ∷ d ∷ [] = e in omega (arith, rw f at is)
first_length-is front [] n e enough is = absurd (omega arith)
first_length-is front (a ∷ []) n e enough is = absurd (omega arith)
first_length-is front (a ∷ b ∷ []) n e enough is = absurd (omega arith)
first_length-is front (a ∷ b ∷ c ∷ []) n e enough is = absurd (omega arith)

-- where posts lie, the first of them and the others
pub record First (n : ℕ) (bytes : List ℕ) : Type 0 where
  pub enough : 4 ≤ length bytes
  pub others_lie : PostsLie (n - 1) (behind_first bytes)
  pub posts_are : posts_of n bytes ≡ take (first_length bytes) (drop 4 bytes) ∷ posts_of (n - 1) (behind_first bytes)

pub first_of : (n : ℕ) (bytes : List ℕ) → (n ≡ 0 → ⊥) → PostsLie n bytes → First n bytes
first_of zero bytes some lie = absurd (some refl)
first_of (suc n) bytes some lie =
    let less : suc n - 1 ≡ n = omega arith in
    record { enough = lie.0; others_lie = rw less lie.2; posts_are = rw less refl }

-- a walk over the first post: what it leaves holds the others, and what lay there was the first before them
pub walked : (n k : ℕ) (bytes front rest post last : List ℕ) → (n ≡ 0 → ⊥) → PostsLie n bytes → front ≡ take 4 bytes → rest ≡ drop 4 bytes
    → k ≡ get_or front 0 0 * 16777216 + get_or front 1 0 * 65536 + get_or front 2 0 * 256 + get_or front 3 0
    → post ≡ take k rest → last ≡ drop k rest → PostsLie (n - 1) last × (posts_of n bytes ≡ post ∷ posts_of (n - 1) last)
walked n k bytes front rest post last some lie front_is rest_is number post_is last_is =
    let first = first_of n bytes some lie in
    let long : k ≡ first_length bytes = first_length-is front bytes k front_is first.enough number in
    let behind : last ≡ behind_first bytes = last_is ∙ ap (λ (j : ℕ). drop j rest) long ∙ ap (drop (first_length bytes)) rest_is in
    let one : post ≡ take (first_length bytes) (drop 4 bytes) = post_is ∙ ap (λ (j : ℕ). take j rest) long
    ∙ ap (take (first_length bytes)) rest_is in
    (subst (λ (x : List ℕ). PostsLie (n - 1) x) (sym behind) first.others_lie, rw (one, behind) first.posts_are)

-- ---- what is read

abbrev read_ok : List (List ℕ) × Reading → Result (List (List ℕ) × Reading) FailedForm
read_ok x = Ok x

-- bytes that were read are the next, of those that there are
bytes_at-parts : (n : ℕ) (r : Reading) (x : List ℕ × Reading) → bytes_at n r ≡ Ok x → (n ≤ length r.rest) × (take n r.rest ≡ x.0)
    × (drop n r.rest ≡ x.1.rest)
bytes_at-parts n r x e =
    let takes = bytes_at-takes n r x e in
    let enough : n ≤ length r.rest = omega (arith, ap length takes.0.text_is, length-append x.0 x.1.rest, takes.1) in
    let same : Ok (take n r.rest, advanced n r) ≡ Ok x = sym (bytes_at-enough n r enough) ∙ e in
    let y : (take n r.rest, advanced n r) ≡ x = cc in
    (enough, ap (λ (z : List ℕ × Reading). z.0) y, ap (λ (z : List ℕ × Reading). z.1.rest) y)

lies_by : (k : ℕ) (rest body post last : List ℕ) → k ≡ first_length rest → body ≡ drop 4 rest → k ≤ length body → take k body ≡ post
    → drop k body ≡ last
    → (first_length rest ≤ length (drop 4 rest)) × (take (first_length rest) (drop 4 rest) ≡ post) × (behind_first rest ≡ last)
lies_by k rest body post last long behind enough post_is last_is =
    let P : ℕ → List ℕ → Type 0 = λ j y. (j ≤ length y) × (take j y ≡ post) × (drop j y ≡ last) in
    subst (λ (j : ℕ). P j (drop 4 rest)) long (subst (λ (y : List ℕ). P k y) behind (enough, post_is, last_is))

-- how a reading was made of a post
listed_at-lies : (size : ℕ) (r : Reading) (x : List ℕ × Reading) → listed_at size r ≡ Ok x
    → (4 ≤ length r.rest) × (first_length r.rest ≤ length (drop 4 r.rest)) × (take (first_length r.rest) (drop 4 r.rest) ≡ x.0)
    × (behind_first r.rest ≡ x.1.rest)
unfolding listed_at
listed_at-lies size r x e =
    let n = bind_ok (or_cut size (number_at w32 r)) _ x e in
    let front = bind_ok (bytes_at 4 r) _ n.0 (fault_as_ok (λ (short : Short). Form size) (number_at w32 r) n.0 n.1) in
    let body = fault_as_ok (λ (short : Short). Form size) (bytes_at n.0.0 n.0.1) x n.2 in
    let four = bytes_at-parts 4 r front.0 front.1 in
    let post = bytes_at-parts n.0.0 n.0.1 x body in
    let read : number_ok (from_be_bytes w32 front.0.0, front.0.1) ≡ number_ok n.0 = front.2 in
    let same : (from_be_bytes w32 front.0.0, front.0.1) ≡ n.0 = cc in
    let long : n.0.0 ≡ first_length r.rest = ap (λ (y : ℕ × Reading). y.0) (sym same) ∙ ap (from_be_bytes w32) (sym four.1) in
    let behind : n.0.1.rest ≡ drop 4 r.rest = ap (λ (y : ℕ × Reading). y.1.rest) (sym same) ∙ sym four.2 in
    let lies = lies_by n.0.0 r.rest n.0.1.rest x.0 x.1.rest long behind post.0 post.1 post.2 in
    (four.0, lies.0, lies.1, lies.2)
  where
    number_ok : ℕ × Reading → Result (ℕ × Reading) Short
    number_ok y = Ok y

-- posts that were read lay there
pub repeated-lies : (size n : ℕ) (r : Reading) (x : List (List ℕ) × Reading) → repeated n (listed_at size) r ≡ Ok x → PostsLie n r.rest
    × (posts_of n r.rest ≡ x.0)
unfolding repeated
repeated-lies size zero r x e =
    let none : List (List ℕ) × Reading = ([], r) in
    let same : none ≡ x = (let e : read_ok none ≡ read_ok x = e in cc) in
    (tt, ap (λ (y : List (List ℕ) × Reading). y.0) same)
repeated-lies size (suc n) r x e =
    let first = bind_ok (listed_at size r) _ x e in
    let others = bind_ok (repeated n (listed_at size) first.0.1) _ x first.2 in
    let here = listed_at-lies size r first.0 first.1 in
    let there = repeated-lies size n first.0.1 others.0 others.1 in
    let made : List (List ℕ) × Reading = (first.0.0 ∷ others.0.0, others.0.1) in
    let same : made ≡ x = (let e : read_ok made ≡ read_ok x = others.2 in cc) in
    let lie : PostsLie n (behind_first r.rest) = subst (λ (y : List ℕ). PostsLie n y) (sym here.3) there.0 in
    let posts : posts_of n (behind_first r.rest) ≡ others.0.0 = ap (posts_of n) here.3 ∙ there.1 in
    ((here.0, here.1, lie), rw (here.2, posts) (ap (λ (y : List (List ℕ) × Reading). y.0) same))

-- as many posts are read as are asked for
pub repeated-count : (size n : ℕ) (r : Reading) (x : List (List ℕ) × Reading) → repeated n (listed_at size) r ≡ Ok x → length x.0 ≡ n
unfolding repeated
repeated-count size zero r x e =
    let none : List (List ℕ) × Reading = ([], r) in
    let same : none ≡ x = (let e : read_ok none ≡ read_ok x = e in cc) in
    sym (ap (λ (y : List (List ℕ) × Reading). length y.0) same)
repeated-count size (suc n) r x e =
    let first = bind_ok (listed_at size r) _ x e in
    let others = bind_ok (repeated n (listed_at size) first.0.1) _ x first.2 in
    let made : List (List ℕ) × Reading = (first.0.0 ∷ others.0.0, others.0.1) in
    let same : made ≡ x = (let e : read_ok made ≡ read_ok x = others.2 in cc) in
    let long : length (first.0.0 ∷ others.0.0) ≡ suc n = omega (arith, repeated-count size n first.0.1 others.0 others.1) in
    sym (ap (λ (y : List (List ℕ) × Reading). length y.0) same) ∙ long
