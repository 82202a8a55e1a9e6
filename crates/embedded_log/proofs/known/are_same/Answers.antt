use Rattle.std.proofs.Common.{◌≡◌, ℕ, ◌+◌, ◌<◌, suc, List, [], ◌∷◌, ◌++◌, length, get_or, take, true, sym, ap, ◌∙◌, arith}
use Rattle.std.specs.Str.{bytes_eq}
use Rattle.std.proofs.lemmas.Bool.{not-false}
use Rattle.std.proofs.lemmas.Slice.Eq.{bytes_eq-Decides}
use Rattle.std.proofs.Math.Seq.{take-suc}
use Rattle.embedded_log.proofs.known.are_same.Goals as goal

-- one more
same-next : (a b : List (List ℕ)) (k : ℕ) (x y : List ℕ) → k < length a → k < length b → x ≡ get_or a k x → y ≡ get_or b k y → x ≡ y
    → take k a ≡ take k b → take (k + 1) a ≡ take (k + 1) b
same-next a b k x y in-a in-b at-a at-b e so =
    let next : k + 1 ≡ suc k = omega arith in
    ap (λ (n : ℕ). take n a) next
    ∙ take-suc a k x in-a
    ∙ ap (λ (z : List ℕ). take k a ++ z ∷ []) (sym at-a ∙ e ∙ at-b)
    ∙ ap (λ (t : List (List ℕ)). t ++ get_or b k y ∷ []) so
    ∙ sym (take-suc b k y in-b)
    ∙ ap (λ (n : ℕ). take n b) (sym next)

pub loop-place-preserved : goal.loop-place-preserved
loop-place-preserved c =
    let a : List (List ℕ) = c.args.a.now in
    let b : List (List ℕ) = c.args.b.now in
    let x = c.as_slice.ensures.value ∙ c.items.ensures in
    let y = c.as_slice-in-loop-place.ensures.value ∙ c.items-in-loop-place.ensures in
    let alike : bytes_eq c.as_slice.result.now c.as_slice-in-loop-place.result.now ≡ true = not-false _ (sym c.ne.ensures ∙ c.if-ne.false)
    in
    let same = (bytes_eq-Decides c.as_slice.result.now c.as_slice-in-loop-place.result.now).0 alike in
    same-next a b c.loop-place.place c.index-a-place.result c.index-b-place.result c.loop-place-test.true
    (omega (arith, c.loop-place-test.true, c.if-a-b.false))
    c.index-a-place.is c.index-b-place.is (sym x ∙ same ∙ y) c.loop-place.invariant
