-- The drawn order: it passes through a map, and it is an order.
use Rattle.std.proofs.Common.{◌≡◌, ℕ, zero, suc, ◌+◌, ◌-◌, ◌*◌, ◌/◌, ◌%◌, ◌^◌, ◌<◌, ◌≤◌, ◌==◌, List, [], ◌∷◌, length, map, get_or, Bool, true, false, nat_lt, refl, sym, ap, ◌∙◌, arith, swap, IsPermutation, cond, inl, inr, lit<, mod-lt}
use Rattle.std.specs.List.{range_with_len}
use Rattle.std.proofs.Math.ListN.{length-map}
use Rattle.std.proofs.lemmas.Bool.{cases_lt}
use Rattle.std.proofs.lemmas.Nat.{mul-le}
use Rattle.std.proofs.lemmas.Bool.Decides.{nat_tests}
use Rattle.std.proofs.lemmas.List.FromFn.{fill_by_all, length-range_with_len}
use Rattle.std.proofs.lemmas.List.Sorted.{IsPermutation-refl, IsPermutation-trans, IsPermutation-swap, length_permutation}
use Rattle.rand_core.specs.Stream.{Stream, Call, next_u32, after, u32_call}
use Rattle.rand_core.specs.Steps.{steps_u32, stream_of, state_after}
use Rattle.rand_chacha.specs.Block.{block_word}
use Rattle.rand_chacha.specs.ChaCha.{next_word, of_seed}
use Rattle.rand.specs.Uniform.{canon, usize_single}
use Rattle.rand.specs.Shuffle.{rising, grow, chunk_of, Chooser, chooser_at, chooser_refill, chooser_next, narrow_swaps, wide_swaps, shuffled}
use Rattle.rand.proofs.UniformLemmas.{carry_room}
use Rattle.rand.proofs.ShuffleLemmas.{rising_more, rising_one, rising_positive, rest_below, last_below}
use Rattle.layer_cipher.proofs.Swaps.{map-swap}
use Rattle.shuffle_core.specs.Laws.{DrawnOrderPermutes, EntriesArePermuted}
use Rattle.shuffle_core.specs.Shuffle.{drawn_stream, drawn_order, in_drawn_order}

-- ---- a shuffle passes through a map

narrow_step : {X : Type 0} → List X × Chooser × Stream → List X × Chooser × Stream
narrow_step p = let d = chooser_next p.1 p.2 in (swap p.0 p.1.n d.0, d.1, d.2)

narrow-suc : {X : Type 0} (xs : List X) (c : Chooser) (s : Stream) (k : ℕ)
    → narrow_swaps xs c s (suc k) ≡ narrow_step (narrow_swaps xs c s k)
unfolding narrow_swaps narrow_step
narrow-suc xs c s k = refl

narrow_step-map : {X Y : Type 0} (f : X → Y) (p : List X × Chooser × Stream)
    → narrow_step (map f p.0, p.1, p.2) ≡ (map f (narrow_step p).0, (narrow_step p).1, (narrow_step p).2)
unfolding narrow_step
narrow_step-map f p = let d = chooser_next p.1 p.2 in ap (λ xs. (xs, d.1, d.2)) (sym (map-swap f p.0 p.1.n d.0))

narrow-map : {X Y : Type 0} (f : X → Y) (xs : List X) (c : Chooser) (s : Stream) (k : ℕ)
    → narrow_swaps (map f xs) c s k ≡ (map f (narrow_swaps xs c s k).0, (narrow_swaps xs c s k).1, (narrow_swaps xs c s k).2)
unfolding narrow_swaps narrow_step
narrow-map f xs c s zero = refl
narrow-map f xs c s (suc k) = ap narrow_step (narrow-map f xs c s k) ∙ narrow_step-map f (narrow_swaps xs c s k)

wide_step : {X : Type 0} → ℕ → List X × Stream → List X × Stream
wide_step place p = let d = usize_single 0 (place + 1) p.1 in (swap p.0 place d.0, d.1)

wide-map : {X Y : Type 0} (f : X → Y) (xs : List X) (start : ℕ) (s : Stream) (k : ℕ)
    → wide_swaps (map f xs) start s k ≡ (map f (wide_swaps xs start s k).0, (wide_swaps xs start s k).1)
unfolding wide_swaps wide_step
wide-map f xs start s zero = refl
wide-map f xs start s (suc k) =
    let p = wide_swaps xs start s k in
    let d = usize_single 0 (start + k + 1) p.1 in
    ap (wide_step (start + k)) (wide-map f xs start s k) ∙ ap (λ ys. (ys, d.1)) (sym (map-swap f p.0 (start + k) d.0))

list_of : {X : Type 0} → Bool → List X × Stream → List X × Stream → List X
list_of true p q = p.0
list_of false p q = q.0

first_of_pair : {X : Type 0} (b : Bool) (p q : List X × Stream) → (cond b p q).0 ≡ list_of b p q
unfolding list_of
first_of_pair true p q = refl
first_of_pair false p q = refl

shuffled-list : {X : Type 0} (xs : List X) (s : Stream) → (shuffled xs 0 s).0
    ≡ list_of (nat_lt (length xs) (2 ^ 32 - 1))
    ((narrow_swaps xs (chooser_at 0) s (length xs - 0)).0, (narrow_swaps xs (chooser_at 0) s (length xs - 0)).2)
    (wide_swaps xs 0 s (length xs - 0))
shuffled-list xs s =
    let p = narrow_swaps xs (chooser_at 0) s (length xs - 0) in
    first_of_pair (nat_lt (length xs) (2 ^ 32 - 1)) (p.0, p.2) (wide_swaps xs 0 s (length xs - 0))

list_of-map : {X Y : Type 0} (f : X → Y) (b : Bool) (p q : List X × Stream)
    → list_of b (map f p.0, p.1) (map f q.0, q.1) ≡ map f (list_of b p q)
unfolding list_of
list_of-map f true p q = refl
list_of-map f false p q = refl

pub shuffled-map : {X Y : Type 0} (f : X → Y) (xs : List X) (s : Stream) → (shuffled (map f xs) 0 s).0 ≡ map f (shuffled xs 0 s).0
shuffled-map f xs s =
    let n = length xs - 0 in
    let p = narrow_swaps xs (chooser_at 0) s n in
    rw (shuffled-list (map f xs) s, shuffled-list xs s, length-map xs f, narrow-map f xs (chooser_at 0) s n, wide-map f xs 0 s n)
    (list_of-map f (nat_lt (length xs) (2 ^ 32 - 1)) (p.0, p.2) (wide_swaps xs 0 s n))

-- each entry by its place
by_place : (xs : List (List ℕ)) → xs ≡ map (λ place. get_or xs place []) (range_with_len 0 (length xs))
by_place xs = fill_by_all (λ place. get_or xs place []) xs (length xs) [] refl (λ k below. refl)

-- the entries, shuffled themselves
pub in_drawn_order-shuffled : (seed : List ℕ) (entries : List (List ℕ))
    → (shuffled entries 0 (drawn_stream seed)).0 ≡ in_drawn_order seed entries
unfolding in_drawn_order drawn_order
in_drawn_order-shuffled seed entries =
    let numbers = range_with_len 0 (length entries) in
    ap (λ xs. (shuffled xs 0 (drawn_stream seed)).0) (by_place entries)
    ∙ shuffled-map (λ place. get_or entries place []) numbers (drawn_stream seed)

-- ---- what a stream of words draws is below its bound

-- each word of the stream has 32 bits, whatever is asked before
record IsWordy (s : Stream) : Type 0 where
  words : (calls : List Call) → s.u32_after calls < 2 ^ 32

drawn_is_wordy : (seed : List ℕ) → IsWordy (drawn_stream seed)
unfolding stream_of block_word
drawn_is_wordy seed = record {
  words = λ calls.
      let g = state_after (steps_u32 (next_word 10)) calls (of_seed seed) in
      mod-lt _ {m = 2 ^ 32} (lit< tt);
}

after_is_wordy : (s : Stream) (call : Call) → IsWordy s → IsWordy (after call s)
after_is_wordy s call wordy = record { words = λ calls. wordy.words (call ∷ calls) }

-- a draw by Canon's method, and the stream that is left
record Draws (bound : ℕ) (p : ℕ × Stream) : Type 0 where
  below : p.0 < bound
  rest : IsWordy p.1

-- what holds of both, where the test says which
either : {A : Type 0} (P : A → Type 0) (b : Bool) (p q : A) → (b ≡ true → P p) → (b ≡ false → P q) → P (cond b p q)
either P true p q first second = first refl
either P false p q first second = second refl

plain : (m range w high low : ℕ) → w < m → high * m + low ≡ w * range → 0 < range → high < range
plain m range w high low fits product some =
    let a : (w + 1) * range ≤ m * range = mul-le (w + 1) range m range (omega arith) (omega arith) in
    elim (cases_lt high range) [
      | inl below ↦ below
      | inr over ↦
          let b : range * m ≤ high * m = mul-le range m high m over (omega arith) in
          absurd (omega arith)
    ]

canon_draws : (range : ℕ) (s : Stream) → 0 < range → range ≤ 2 ^ 32 → IsWordy s → Draws range (canon (2 ^ 32) next_u32 range s)
unfolding canon next_u32
canon_draws range s some within wordy =
    let m = 2 ^ 32 in
    let w = s.u32_after [] in
    let fits : w < m = wordy.words [] in
    let high = w * range / m in
    let low = w * range % m in
    let whole : high * m + low ≡ w * range = omega arith in
    let one = after_is_wordy s u32_call wordy in
    let high_fits = plain m range w high low fits whole some in
    either (Draws range) (nat_lt (m - range) low) _ _
    (λ test. record {
      below = either (λ (x : ℕ). x < range) _ (high + 1) high (λ _. carry_room m range w high low fits whole (grind (arith, nat_tests))
          within) (λ _. high_fits);
      rest = after_is_wordy _ u32_call one;
    })
    (λ test. record { below = high_fits; rest = one })

-- ---- the indices that are drawn

-- a product of factors from m up, and how many they are
record IsChunk (m : ℕ) (p : ℕ × ℕ) : Type 0 where
  product : p.0 ≡ rising m p.1
  some : 0 < p.1
  fits : p.0 < 2 ^ 32

grow_is_chunk : (fuel m product current count : ℕ) → product ≡ rising m count → current ≡ m + count → 0 < count → product < 2 ^ 32
    → IsChunk m (grow fuel product current count)
unfolding grow
grow_is_chunk zero m product current count is at some fits = record { product = is; some = some; fits = fits }
grow_is_chunk (suc fuel) m product current count is at some fits =
    either (IsChunk m) (nat_lt (2 ^ 32 - 1) (product * current)) _ _
    (λ test. record { product = is; some = some; fits = fits })
    (λ test. grow_is_chunk fuel m (product * current) (current + 1) (count + 1) (rw (is, at) (sym (rising_more m count))) (omega arith)
    (omega arith) (grind (arith, nat_tests)))

-- what is left of a draw is below the product of the factors that it still serves
record IsSound (c : Chooser) : Type 0 where
  below : 0 < c.left → c.chunk < rising (c.n + 1) c.left

record IsRefilled (n : ℕ) (r : ℕ × ℕ × Stream) : Type 0 where
  some : 0 < r.1
  below : r.0 < rising (n + 1) r.1
  rest : IsWordy r.2

refill_is_refilled : (c : Chooser) (s : Stream) → c.n + 1 < 2 ^ 32 → IsSound c → IsWordy s → IsRefilled c.n (chooser_refill c s)
refill_is_refilled c s small sound wordy =
    let chunk = grow_is_chunk 32 (c.n + 1) (c.n + 1) (c.n + 1 + 1) 1 (rising_one (c.n + 1)) refl (omega arith) small in
    let positive : 0 < (chunk_of (c.n + 1)).0 = rw chunk.product (rising_positive (c.n + 1) (chunk_of (c.n + 1)).1 (omega arith)) in
    let drawn = canon_draws (chunk_of (c.n + 1)).0 s positive (omega (arith, chunk.fits)) wordy in
    either (IsRefilled c.n) (c.left == 0) _ _
    (λ test. record { some = chunk.some; below = rw (← chunk.product) drawn.below; rest = drawn.rest })
    (λ test. let left : 0 < c.left = grind (arith, nat_tests) in record { some = left; below = sound.below left; rest = wordy })

record IsNext (n : ℕ) (p : ℕ × Chooser × Stream) : Type 0 where
  within : p.0 ≤ n
  bound : p.1.n ≡ n + 1
  sound : IsSound p.1
  rest : IsWordy p.2

next_is_next : (c : Chooser) (s : Stream) → c.n + 1 < 2 ^ 32 → IsSound c → IsWordy s → IsNext c.n (chooser_next c s)
next_is_next c s small sound wordy =
    let n = c.n in
    let r = chooser_refill c s in
    let filled = refill_is_refilled c s small sound wordy in
    either (IsNext n) (r.1 == 1) (r.0, record { n = n + 1; chunk = r.0; left = 0 }, r.2)
    (r.0 % (n + 1), record { n = n + 1; chunk = r.0 / (n + 1); left = r.1 - 1 }, r.2)
    (λ test.
    let one : r.1 ≡ 1 = grind (arith, nat_tests) in
    record {
      within = omega (arith, last_below r.0 (n + 1) (rw one at filled.below));
      bound = refl;
      sound = record { below = λ none. absurd (omega arith) };
      rest = filled.rest;
    })
    (λ test.
    let more : suc (r.1 - 1) ≡ r.1 = omega (arith, filled.some) in
    record {
      within = omega (arith, mod-lt r.0 {m = n + 1} (omega arith));
      bound = refl;
      sound = record { below = λ left. rest_below r.0 (n + 1) (r.1 - 1) (omega arith) (rw more filled.below) };
      rest = filled.rest;
    })

-- ---- what is shuffled is moved

record IsNarrowed {X : Type 0} (xs : List X) (k : ℕ) (p : List X × Chooser × Stream) : Type 0 where
  moved : IsPermutation xs p.0
  bound : p.1.n ≡ k
  sound : IsSound p.1
  rest : IsWordy p.2

narrow_step_is_narrowed : {X : Type 0} (xs : List X) (k : ℕ) (p : List X × Chooser × Stream) → k < length xs → length xs < 2 ^ 32
    → IsNarrowed xs k p → IsNarrowed xs (suc k) (narrow_step p)
unfolding narrow_step
narrow_step_is_narrowed xs k p below few before =
    let next = next_is_next p.1 p.2 (omega (arith, before.bound)) before.sound before.rest in
    let long = length_permutation xs p.0 before.moved in
    let d = chooser_next p.1 p.2 in
    record {
      moved = IsPermutation-trans xs p.0 (swap p.0 p.1.n d.0) before.moved
          (IsPermutation-swap p.0 (swap p.0 p.1.n d.0) p.1.n d.0 (omega (arith, before.bound, long))
          (omega (arith, before.bound, long, next.within)) refl);
      bound = omega (arith, next.bound, before.bound);
      sound = next.sound;
      rest = next.rest;
    }

narrow_is_narrowed : {X : Type 0} (xs : List X) (s : Stream) (k : ℕ) → k ≤ length xs → length xs < 2 ^ 32 → IsWordy s
    → IsNarrowed xs k (narrow_swaps xs (chooser_at 0) s k)
unfolding narrow_swaps rising
narrow_is_narrowed xs s zero within few wordy = record {
  moved = IsPermutation-refl xs;
  bound = refl;
  sound = record
      { below = λ _. omega arith };
  rest = wordy;
}
narrow_is_narrowed xs s (suc k) within few wordy =
    rw (narrow-suc xs (chooser_at 0) s k)
    (narrow_step_is_narrowed xs k (narrow_swaps xs (chooser_at 0) s k) (omega arith) few
    (narrow_is_narrowed xs s k (omega arith) few wordy))

record IsWidened {X : Type 0} (xs : List X) (p : List X × Stream) : Type 0 where
  moved : IsPermutation xs p.0
  rest : IsWordy p.1

usize_draws : (place : ℕ) (s : Stream) → place + 1 < 2 ^ 32 → IsWordy s → Draws (place + 1) (usize_single 0 (place + 1) s)
usize_draws place s small wordy =
    let drawn = canon_draws (place + 1 - 0) s (omega arith) (omega arith) wordy in
    either (Draws (place + 1)) (nat_lt (place + 1) (2 ^ 32)) _ _
    (λ test. record { below = omega (arith, drawn.below); rest = drawn.rest })
    (λ test. absurd (grind (arith, nat_tests)))

wide_step_is_widened : {X : Type 0} (xs : List X) (place : ℕ) (p : List X × Stream) → place < length xs → length xs < 2 ^ 32
    → IsWidened xs p → IsWidened xs (wide_step place p)
unfolding wide_step
wide_step_is_widened xs place p below few before =
    let next = usize_draws place p.1 (omega arith) before.rest in
    let long = length_permutation xs p.0 before.moved in
    let d = usize_single 0 (place + 1) p.1 in
    record {
      moved = IsPermutation-trans xs p.0 (swap p.0 place d.0) before.moved
          (IsPermutation-swap p.0 (swap p.0 place d.0) place d.0 (omega (arith, long)) (omega (arith, long, next.below)) refl);
      rest = next.rest;
    }

wide-suc : {X : Type 0} (xs : List X) (s : Stream) (k : ℕ) → wide_swaps xs 0 s (suc k) ≡ wide_step (0 + k) (wide_swaps xs 0 s k)
unfolding wide_swaps wide_step
wide-suc xs s k = refl

wide_is_widened : {X : Type 0} (xs : List X) (s : Stream) (k : ℕ) → k ≤ length xs → length xs < 2 ^ 32 → IsWordy s
    → IsWidened xs (wide_swaps xs 0 s k)
unfolding wide_swaps
wide_is_widened xs s zero within few wordy = record { moved = IsPermutation-refl xs; rest = wordy }
wide_is_widened xs s (suc k) within few wordy =
    rw (wide-suc xs s k) (wide_step_is_widened xs (0 + k) (wide_swaps xs 0 s k) (omega arith) few
    (wide_is_widened xs s k (omega arith) few wordy))

either_moves : {X : Type 0} (xs : List X) (b : Bool) (p q : List X × Stream) → IsPermutation xs p.0 → IsPermutation xs q.0
    → IsPermutation xs (list_of b p q)
unfolding list_of
either_moves xs true p q first second = first
either_moves xs false p q first second = second

shuffled_moves : {X : Type 0} (xs : List X) (s : Stream) → length xs < 2 ^ 32 → IsWordy s → IsPermutation xs (shuffled xs 0 s).0
shuffled_moves xs s few wordy =
    let n = length xs - 0 in
    let p = narrow_swaps xs (chooser_at 0) s n in
    let narrowed = narrow_is_narrowed xs s n (omega arith) few wordy in
    let widened = wide_is_widened xs s n (omega arith) few wordy in
    rw (shuffled-list xs s) (either_moves xs (nat_lt (length xs) (2 ^ 32 - 1)) (p.0, p.2) (wide_swaps xs 0 s n) narrowed.moved
    widened.moved)

-- ---- the two laws

pub drawn_order_permutes : DrawnOrderPermutes
unfolding drawn_order
drawn_order_permutes seed n few = shuffled_moves (range_with_len 0 n) (drawn_stream seed) (rw (length-range_with_len 0 n) few)
    (drawn_is_wordy seed)

pub entries_are_permuted : EntriesArePermuted
entries_are_permuted seed entries few = rw (← in_drawn_order-shuffled seed entries)
    (shuffled_moves entries (drawn_stream seed) few (drawn_is_wordy seed))
