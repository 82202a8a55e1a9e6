-- A file that is read to its end, and a piece that goes to a writer.
use Rattle.std.proofs.Common.{◌≡◌, ℕ, ◌+◌, ◌≤◌, List, ◌++◌, length, take, drop, Option, Some, None, Result, Ok, Err, IfSome, sym, ap, subst, ◌∙◌, arith, append_assoc}
use Rattle.std.specs.Prelude.{option_map}
use Rattle.std.specs.Io.KnownBytes.{Keeps, Appends, WriteAppends}
use Rattle.std.specs.Io.Take.{take_limit, take_inner, take_remaining}
use Rattle.std.specs.declared.io.traits.Take.{Take}
use Rattle.std.proofs.lemmas.Bool.{le-ltb}
use Rattle.std.proofs.lemmas.List.{length-take, take_all, take-take, drop-take, take-append-drop}
use Rattle.offline_commands.specs.Outside.{Gains, GainsFirstOf}
use Rattle.offline_commands.specs.Host.{within_limit}

-- what was read up to one byte past the limit, and is not past it, is all
pub read-whole : (known : Option (List ℕ)) (read : List ℕ) (limit : ℕ) → IfSome (option_map (take (limit + 1)) known) (λ xs. read ≡ xs)
    → length read ≤ limit → IfSome known (λ all. Some read ≡ within_limit limit all)
read-whole None read limit e few = tt
read-whole (Some all) read limit e few =
    let small : length all ≤ limit = omega (arith, ap length e, length-take (limit + 1) all) in
    let same : read ≡ all = e ∙ take_all (limit + 1) all (omega (arith, small)) in
    rw (le-ltb _ _ small) (ap (λ (x : List ℕ). Some x) same)

pub read-taken : {R : Type 0} (remaining : R → Option (List ℕ)) (t : Take R) (reader : R) (limit : ℕ) (read : List ℕ)
    → take_limit t ≡ limit + 1 → take_inner t ≡ reader
    → IfSome (take_remaining remaining t) (λ xs. read ≡ xs) → length read ≤ limit
    → IfSome (remaining reader) (λ all. Some read ≡ within_limit limit all)
read-taken {R} remaining t reader limit read most inner known few =
    let some = subst (λ (m : ℕ). IfSome (option_map (take m) (remaining (take_inner t))) (λ xs. read ≡ xs)) most known in
    read-whole (remaining reader) read limit (subst (λ (r : R). IfSome (option_map (take (limit + 1)) (remaining r)) (λ xs. read ≡ xs))
    inner some) few

take-more : (n m : ℕ) (xs : List ℕ) → take n xs ++ take m (drop n xs) ≡ take (n + m) xs
take-more n m xs =
    ap (λ (x : List ℕ). take n xs ++ x) (sym (drop-take n m xs))
    ∙ ap (λ (x : List ℕ). x ++ drop n (take (n + m) xs)) (sym (shorter n m xs))
    ∙ take-append-drop n (take (n + m) xs)
  where
    shorter : (n m : ℕ) (xs : List ℕ) → take n (take (n + m) xs) ≡ take n xs
    shorter n m xs = take-take n (n + m) xs (omega arith)

-- a writer that had the first bytes of a piece took some more,
pub gains-more : (old mid new : Option (List ℕ)) (piece rest : List ℕ) (n m : ℕ) → Gains old mid (take n piece) → rest ≡ drop n piece
    → Appends mid new (take m rest) → Gains old new (take (n + m) piece)
gains-more None mid new piece rest n m gains is appends = tt
gains-more (Some before) None new piece rest n m gains is appends = absurd (cc)
gains-more (Some before) (Some held) None piece rest n m gains is appends = absurd appends
gains-more (Some before) (Some held) (Some now) piece rest n m gains is appends =
    let was : held ≡ before ++ take n piece = cc in
    ap (λ (x : List ℕ). Some x) (appends ∙ ap (λ (x : List ℕ). held ++ take m x) is ∙ ap (λ (x : List ℕ). x ++ take m (drop n piece)) was
    ∙ append_assoc before (take n piece) (take m (drop n piece))
    ∙ ap (λ (x : List ℕ). before ++ x) (take-more n m piece))

-- or none,
pub gains-kept : (old mid new : Option (List ℕ)) (text : List ℕ) → Gains old mid text → Keeps mid new → Gains old new text
gains-kept None mid new text gains keeps = tt
gains-kept (Some before) None new text gains keeps = absurd (cc)
gains-kept (Some before) (Some held) None text gains keeps = absurd keeps
gains-kept (Some before) (Some held) (Some now) text gains keeps = ap (λ (x : List ℕ). Some x) keeps ∙ gains

-- and so has its first bytes
pub gains-part : (old new : Option (List ℕ)) (piece : List ℕ) (n : ℕ) → Gains old new (take n piece) → GainsFirstOf old new piece
gains-part old new piece n gains = (take n piece, (drop n piece, sym (take-append-drop n piece)), gains)

pub gains-written : {E : Type 0} (old mid new : Option (List ℕ)) (piece rest : List ℕ) (n : ℕ) (answer : Result ℕ E)
    → Gains old mid (take n piece) → rest ≡ drop n piece
    → WriteAppends mid new answer rest → GainsFirstOf old new piece
gains-written old mid new piece rest n (Ok m) gains is written = gains-part old new piece (n + m)
    (gains-more old mid new piece rest n m gains is written)
gains-written old mid new piece rest n (Err e) gains is written = gains-part old new piece n
    (gains-kept old mid new (take n piece) gains written)
