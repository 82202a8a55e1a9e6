-- The log of the posts that a transcript of a bad pad lists: it keeps them in the first slots, in their order.
use Rattle.std.proofs.Common.{◌≡◌, ℕ, zero, suc, ◌+◌, ◌-◌, ◌<◌, ◌≤◌, List, [], ◌∷◌, ◌++◌, length, get_or, map, take, drop, replicate, Option, Some, None, Result, Ok, ap, sym, ◌∙◌, refl, subst, arith, append_assoc, append-nil, length-append}
use Rattle.std.specs.Prelude.{fold, zip}
use Rattle.std.specs.List.{slice_get, slice_set}
use Rattle.std.specs.Result.{result_ok}
use Rattle.std.proofs.Math.Seq.{drop-cons, set-append_seam, take-append_seam}
use Rattle.std.proofs.lemmas.List.{length-map, length-take-le, map-append}
use Rattle.wire_core.specs.Answers.{◌>>=◌}
use Rattle.phase_message.specs.declared.post.Post.{Post}
use Rattle.phase_message.specs.declared.stage.Slot.{Slot}
use Rattle.phase_message.specs.Shape.{Shape}
use Rattle.phase_message.specs.Slots.{slot_at, slot_count, slots_before, slots_of}
use Rattle.phase_message.proofs.SlotLists.{length-slots_of, slot_at-is, slots_before-most}
use Rattle.group_roster.specs.Roster.{Roster, shape_of_roster}
use Rattle.stage_log.specs.Log.{all_some, before, posts_kept}
use Rattle.stage_log.specs.Table.{Log, empty_log, filled}
use Rattle.stage_log.proofs.Pasts.{all_some-map}
use Rattle.transcript_form.specs.declared.claim.Claim.TheVariants.{Pad}
use Rattle.transcript_form.specs.declared.transcript.Transcript.{Transcript}
use Rattle.round_spec.specs.Embedded.{BadPost, log_of, posts_for}
use Rattle.round_spec.specs.Premises.{log_listed, pairs_listed}
use Rattle.round_spec.specs.Slots.{pad_stage}

-- ---- the places of the log

abbrev pub no_post : Option Post
no_post = None

-- the first places hold these posts, and the others none
abbrev pub kept_places : ℕ → List Post → List (Option Post)
kept_places count posts = map (λ x. Some x) posts ++ replicate (count - length posts) no_post

-- the log of them
abbrev pub log_kept : Shape → List Post → Log
log_kept shape posts = record { shape = shape; posts = kept_places (slot_count shape) posts }

abbrev log_with : Shape → List (Option Post) → Log
log_with shape places = record { shape = shape; posts = places }

-- one more post fills the next place
places-next : (count : ℕ) (posts : List Post) (post : Post) → length posts < count
    → slice_set (kept_places count posts) (length posts) (Some post) ≡ kept_places count (posts ++ post ∷ [])
places-next count posts post lt =
    let m : ℕ = count - length posts - 1 in
    let front : List (Option Post) = map (λ x. Some x) posts in
    let left : count - length posts ≡ suc m = omega arith in
    let rest : count - length (posts ++ post ∷ []) ≡ m = omega (arith, length-append posts (post ∷ [])) in
    ap (λ (k : ℕ). slice_set (front ++ replicate k no_post) (length posts) (Some post)) left
    ∙ ap (λ (k : ℕ). slice_set (front ++ no_post ∷ replicate m no_post) k (Some post)) (sym (length-map posts (λ (x : Post). Some x)))
    ∙ set-append_seam front no_post (replicate m no_post) (Some post)
    ∙ sym (append_assoc front (Some post ∷ []) (replicate m no_post))
    ∙ ap (λ (t : List (Option Post)). t ++ replicate m no_post) (sym (map-append (λ (x : Post). Some x) posts (post ∷ [])))
    ∙ ap (λ (k : ℕ). map (λ x. Some x) (posts ++ post ∷ []) ++ replicate k no_post) (sym rest)

-- ---- the slots in their order

-- these slots stand at these numbers, one after the other
abbrev NumberedFrom : Shape → ℕ → List Slot → Type 0
NumberedFrom shape first [] = Unit {0}
NumberedFrom shape first (slot ∷ slots) = (slot_at shape first ≡ Some slot) × NumberedFrom shape (first + 1) slots

-- so do those that stand behind each other in the list of all slots
numbered : (shape : Shape) (n first : ℕ) → first + n ≤ slot_count shape → NumberedFrom shape first (take n (drop first (slots_of shape)))
numbered shape zero first le = tt
numbered shape (suc n) first le =
    let nobody : Slot = record { stage = 0; sender = 0 } in
    let within : first < length (slots_of shape) = omega (arith, le, length-slots_of shape) in
    let cut = drop-cons (slots_of shape) first nobody within in
    let next : suc first ≡ first + 1 = omega arith in
    subst (λ (s : List Slot). NumberedFrom shape first (take (suc n) s)) (sym cut) (
      at (slots_of shape) first nobody within,
      subst (λ (k : ℕ). NumberedFrom shape (first + 1) (take n (drop k (slots_of shape)))) (sym next)
          (numbered shape n (first + 1) (omega (arith, le))),
    )
  where
    at : (xs : List Slot) (k : ℕ) (d : Slot) → k < length xs → slice_get xs k ≡ Some (get_or xs k d)
    at [] k d lt = absurd (omega (arith, lt))
    at (x ∷ xs) zero d lt = refl
    at (x ∷ xs) (suc k) d lt = at xs k d (omega (arith, lt))

-- the posts of such slots are kept behind those before them
log-filled : (shape : Shape) (done : List Post) (slots : List Slot) (posts : List Post) → NumberedFrom shape (length done) slots
    → length slots ≡ length posts
    → length done + length slots ≤ slot_count shape
    → fold (λ log (pair : Slot × Post). filled log pair.0 pair.1) (log_kept shape done) (zip slots posts) ≡ log_kept shape (done ++ posts)
log-filled shape done [] [] numbers long within = ap (log_kept shape) (sym (append-nil done))
log-filled shape done [] (post ∷ posts) numbers long within = absurd (omega (arith, long))
log-filled shape done (slot ∷ slots) [] numbers long within = absurd (omega (arith, long))
log-filled shape done (slot ∷ slots) (post ∷ posts) numbers long within =
    let step : Log → Slot × Post → Log = λ log pair. filled log pair.0 pair.1 in
    let more : length (done ++ post ∷ []) ≡ length done + 1 = length-append done (post ∷ []) in
    let next : filled (log_kept shape done) slot post ≡ log_kept shape (done ++ post ∷ []) =
    ap (λ (k : ℕ). log_with shape (slice_set (kept_places (slot_count shape) done) k (Some post)))
    (slot_at-is shape (length done) slot numbers.0).1
    ∙ ap (log_with shape) (places-next (slot_count shape) done post (omega (arith, within))) in
    let others =
    log-filled shape (done ++ post ∷ []) slots posts (subst (λ (k : ℕ). NumberedFrom shape k slots) (sym more) numbers.1)
    (omega (arith, long)) (omega (arith, within, more)) in
    ap (λ (l : Log). fold step l (zip slots posts)) next ∙ others ∙ ap (log_kept shape) (append_assoc done (post ∷ []) posts)

-- ---- the log that is listed

firsts : (slots : List Slot) (items : List (List ℕ)) → length slots ≤ length items
    → map (λ (pair : Slot × List ℕ). pair.0) (zip slots items) ≡ slots
firsts [] [] le = refl
firsts [] (item ∷ items) le = refl
firsts (slot ∷ slots) [] le = absurd (omega (arith, le))
firsts (slot ∷ slots) (item ∷ items) le = ap (λ (s : List Slot). slot ∷ s) (firsts slots items (omega (arith, le)))

-- where the posts of the slots before the pads are found, the log that is listed keeps them
pub log-listed : (roster : Roster) (t : Transcript) (log : List Post)
    → length log ≡ slots_before (shape_of_roster roster) (pad_stage (shape_of_roster roster))
    → slots_before (shape_of_roster roster) (pad_stage (shape_of_roster roster)) ≤ length t.posts
    → posts_for roster t.round 0 (pairs_listed roster t) ≡ Ok log
    → log_listed roster t Pad ≡ Some (log_kept (shape_of_roster roster) log)
log-listed roster t log long many stands = ap made stands ∙ ap told (ap (λ (s : List Slot). log_of shape (zip s log)) of_slots ∙ kept)
  where
    shape : Shape
    shape = shape_of_roster roster

    n : ℕ
    n = slots_before shape (pad_stage shape)

    slots : List Slot
    slots = take n (slots_of shape)

    most : n ≤ slot_count shape
    most = slots_before-most shape (pad_stage shape)

    slots_long : length slots ≡ n
    slots_long = length-take-le n (slots_of shape) (let few = most in omega (arith, length-slots_of shape))

    told : Log → Option Log
    told log = Some log

    found : Log → Result Log BadPost
    found log = Ok log

    made : Result (List Post) BadPost → Option Log
    made r = result_ok (r >>= λ posts. found (log_of shape (zip (map (λ (pair : Slot × List ℕ). pair.0) (pairs_listed roster t)) posts)))

    of_slots : map (λ (pair : Slot × List ℕ). pair.0) (pairs_listed roster t) ≡ slots
    of_slots = firsts slots t.posts (let count = slots_long in omega (arith, many))

    none : empty_log shape ≡ log_kept shape []
    none = (let whole : slot_count shape ≡ slot_count shape - 0 = omega arith in ap (λ (k : ℕ). log_with shape (replicate k no_post)) whole)

    kept : log_of shape (zip slots log) ≡ log_kept shape log
    kept =
        let count = slots_long in
        let few = most in
        ap (λ (l : Log). fold (λ log (pair : Slot × Post). filled log pair.0 pair.1) l (zip slots log)) none
        ∙ log-filled shape [] slots log (numbered shape n 0 (omega arith)) (slots_long ∙ sym long) (omega arith)

-- its past at that stage are these posts
pub kept-before : (shape : Shape) (stage : ℕ) (log : List Post) → length log ≡ slots_before shape stage
    → before (log_kept shape log) stage ≡ Some log
kept-before shape stage log long =
    let front : List (Option Post) = map (λ x. Some x) log in
    let rest : List (Option Post) = replicate (slot_count shape - length log) no_post in
    ap (λ (k : ℕ). all_some (take k (front ++ rest))) (sym (length-map log (λ (x : Post). Some x) ∙ long))
    ∙ ap all_some (take-append_seam front rest)
    ∙ all_some-map log

-- and it keeps no others
pub kept-posts : (shape : Shape) (log : List Post) → posts_kept (log_kept shape log).posts ≡ log
kept-posts shape log = none_behind log (slot_count shape - length log)
  where
    none_behind : (posts : List Post) (k : ℕ) → posts_kept (map (λ x. Some x) posts ++ replicate k no_post) ≡ posts
    none_behind [] zero = refl
    none_behind [] (suc k) = none_behind [] k
    none_behind (post ∷ posts) k = ap (λ (t : List Post). post ∷ t) (none_behind posts k)
