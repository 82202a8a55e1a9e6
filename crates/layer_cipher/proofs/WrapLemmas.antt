-- Layer upon layer.
use Rattle.std.proofs.Common.{◌≡◌, ℕ, suc, ◌+◌, ◌*◌, ◌<◌, ◌≤◌, List, [], ◌∷◌, length, drop, get_or, map, refl, sym, ap, ◌∙◌, arith, Some, add-one}
use Rattle.std.proofs.Math.Seq.{drop-cons}
use Rattle.std.proofs.lemmas.List.{drop_all}
use Rattle.ring_encrypt.specs.Capsule.{key_of_seed}
use Rattle.layer_cipher.specs.Layer.{layer_of, peeled, wrapping_of, opened_through}
use Rattle.layer_cipher.specs.Laws.{WrappingAdds, WrappedOpens, OutermostDetermined}
use Rattle.layer_cipher.proofs.LayerLemmas.{layer_adds, peels_exactly}

pub wrapping_adds : WrappingAdds
unfolding wrapping_of
wrapping_adds [] [] blob h = omega arith
wrapping_adds [] (m ∷ ms) blob h = absurd (omega arith)
wrapping_adds (key ∷ keys) [] blob h = absurd (omega arith)
wrapping_adds (key ∷ keys) (m ∷ ms) blob h =
    let rest : length (wrapping_of keys ms blob) ≡ length blob + 2272 * length keys = wrapping_adds keys ms blob (omega arith) in
    omega (arith, layer_adds key m (wrapping_of keys ms blob))

pub wrapped_opens : WrappedOpens
unfolding wrapping_of opened_through
wrapped_opens [] [] blob h are = refl
wrapped_opens [] (m ∷ ms) blob h are = absurd (omega arith)
wrapped_opens (seed ∷ seeds) [] blob h are = absurd (omega arith)
wrapped_opens (seed ∷ seeds) (m ∷ ms) blob h are =
    let inside = wrapping_of (map key_of_seed seeds) ms blob in
    let first : peeled seed (layer_of (key_of_seed seed) m inside) ≡ Some (m, inside) =
    (peels_exactly seed (layer_of (key_of_seed seed) m inside) m inside).1 (record { message = are.0; is = refl }) in
    let rest : opened_through seeds inside ≡ Some (ms, blob) = wrapped_opens seeds ms blob (omega arith) are.1 in
    rw (first, rest) refl

-- the pair that is found is one
same_first : (x y : List ℕ × List ℕ) → Some x ≡ Some y → x.0 ≡ y.0
same_first x y e = let same : x ≡ y = cc in ap (λ (p : List ℕ × List ℕ). p.0) same

pub outermost_determined : OutermostDetermined
unfolding wrapping_of
outermost_determined seed m m' keys keys' ms ms' blob blob' is is' same =
    let layer = layer_of (key_of_seed seed) m (wrapping_of keys ms blob) in
    let first : peeled seed layer ≡ Some (m, wrapping_of keys ms blob) = (peels_exactly seed layer m (wrapping_of keys ms blob)).1
    (record { message = is; is = refl }) in
    let second : peeled seed layer ≡ Some (m', wrapping_of keys' ms' blob') = (peels_exactly seed layer m' (wrapping_of keys' ms' blob')).1
    (record { message = is'; is = same }) in
    same_first (m, wrapping_of keys ms blob) (m', wrapping_of keys' ms' blob') (sym first ∙ second)

-- ---- the loop, from the innermost layer out
pub wrapping_of-none : (keys ms : List (List ℕ)) (blob : List ℕ) (k : ℕ) → length keys ≤ k
    → wrapping_of (drop k keys) (drop k ms) blob ≡ blob
unfolding wrapping_of
wrapping_of-none keys ms blob k none = rw (drop_all k keys none) refl

pub wrapping_of-more : (keys ms : List (List ℕ)) (blob inside : List ℕ) (k : ℕ) (key m : List ℕ) → k < length keys → k < length ms
    → key ≡ get_or keys k key → m ≡ get_or ms k m → inside ≡ wrapping_of (drop (k + 1) keys) (drop (k + 1) ms) blob
    → layer_of key m inside ≡ wrapping_of (drop k keys) (drop k ms) blob
unfolding wrapping_of
wrapping_of-more keys ms blob inside k key m below below' is-key is-m is =
    let first : drop k keys ≡ get_or keys k key ∷ drop (suc k) keys = drop-cons keys k key below in
    let second : drop k ms ≡ get_or ms k m ∷ drop (suc k) ms = drop-cons ms k m below' in
    rw (first, second, ← is-key, ← is-m, is, add-one) refl
