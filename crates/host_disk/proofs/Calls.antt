-- Calls of a file, one after the other.
use Rattle.std.proofs.Common.{◌≡◌, ℕ, ◌+◌, List, ◌++◌, take, drop, Option, Some, None, Result, Ok, Err, refl, sym, ap, ◌∙◌, arith}
use Rattle.std.specs.Prelude.{OnErr, option_map}
use Rattle.std.proofs.lemmas.List.{drop-take, take-append-drop, take-take}
use Rattle.host_disk.specs.Placed.{FileState, moved_to, with_written, WritesPart, WritesFirstOf, WritesSome, written_over}
use Rattle.host_disk.proofs.Written.{with_written-append, with_written-nothing}

take-more : (n m : ℕ) (xs : List ℕ) → take n xs ++ take m (drop n xs) ≡ take (n + m) xs
take-more n m xs =
    ap (λ (x : List ℕ). take n xs ++ x) (sym (drop-take n m xs))
    ∙ ap (λ (x : List ℕ). x ++ drop n (take (n + m) xs)) (sym (shorter n m xs))
    ∙ take-append-drop n (take (n + m) xs)
  where
    shorter : (n m : ℕ) (xs : List ℕ) → take n (take (n + m) xs) ≡ take n xs
    shorter n m xs = take-take n (n + m) xs (omega arith)

-- nothing was written yet
pub starts : (old : Option FileState) (bytes : List ℕ) → old ≡ option_map (with_written (take 0 bytes)) old
starts None bytes = refl
starts (Some file) bytes = ap (λ (f : FileState). Some f) (sym (with_written-nothing file))

-- a file that had taken the first n bytes takes m of the rest
pub goes_on : (old mid new : Option FileState) (bytes rest : List ℕ) (n m : ℕ) → mid ≡ option_map (with_written (take n bytes)) old → rest ≡ drop n bytes
    → new ≡ option_map (with_written (take m rest)) mid → new ≡ option_map (with_written (take (n + m) bytes)) old
goes_on old mid new bytes rest n m had is took =
    took ∙ ap (λ (l : List ℕ). option_map (with_written (take m l)) mid) is ∙ ap (option_map (with_written (take m (drop n bytes)))) had ∙ joined old
  where
    joined : (old : Option FileState)
        → option_map (with_written (take m (drop n bytes))) (option_map (with_written (take n bytes)) old) ≡ option_map (with_written (take (n + m) bytes)) old
    joined None = refl
    joined (Some file) =
        ap (λ (f : FileState). Some f) (with_written-append (take n bytes) (take m (drop n bytes)) file
        ∙ ap (λ (l : List ℕ). with_written l file) (take-more n m bytes))

-- a call after which the first bytes are written
pub part-of : {E : Type 0} (old mid new : Option FileState) (bytes rest : List ℕ) (n : ℕ) (answer : Result ℕ E) → mid ≡ option_map (with_written (take n bytes)) old
    → rest ≡ drop n bytes → WritesSome mid new rest answer → WritesPart old new bytes
part-of old mid new bytes rest n (Ok m) had is took = (n + m, goes_on old mid new bytes rest n m had is took)
part-of old mid new bytes rest n (Err e) had is took = (n, took ∙ had)

-- a file to which nothing was written from a place on
pub not_begun : (old new : Option FileState) (at : ℕ) (bytes : List ℕ) → new ≡ old → WritesFirstOf old new at bytes
unfolding written_over
not_begun None new at bytes same = (0, ap (option_map (moved_to 0)) same)
not_begun (Some file) new at bytes same = (0, ap (option_map (moved_to 0)) same)

-- what holds at an error holds on an error
pub on_err : {T E : Type 0} {P : Type 0} (result : Result T E) → P → OnErr result P
on_err (Ok value) holds = tt
on_err (Err e) holds = holds
