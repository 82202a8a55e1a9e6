-- A place more of a stage.
use Rattle.std.proofs.Common.{◌≡◌, ℕ, ◌+◌, ◌<◌, true, false, List, [], ◌∷◌, ◌++◌, length, take, get_or, Option, Some, None, refl, ap, sym, ◌∙◌}
use Rattle.std.specs.Prelude.{option_and_then}
use Rattle.std.specs.List.{slice_get}
use Rattle.std.proofs.lemmas.Bool.{cond-true, cond-false}
use Rattle.std.proofs.lemmas.List.{take_more}
use Rattle.std.proofs.lemmas.List.Elements.{filter_map-append}
use Rattle.std.proofs.lemmas.Option.{slice_get_read}
use Rattle.phase_message.specs.declared.post.Post.{Post}
use Rattle.stage_log.specs.Log.{content_in, contents_in, is_carried, posts_kept, unlike_at}

next : (places : List (Option Post)) (i : ℕ) (kept : Option Post) → i < length places → kept ≡ get_or places i kept
    → take (i + 1) places ≡ take i places ++ kept ∷ []
next places i kept within is = take_more places i kept within ∙ ap (λ (o : Option Post). take i places ++ o ∷ []) (sym is)

pub contents_in-next : (places : List (Option Post)) (i : ℕ) (kept : Option Post) → i < length places → kept ≡ get_or places i kept
    → contents_in (take (i + 1) places) ≡ contents_in (take i places) ++ contents_in (kept ∷ [])
contents_in-next places i kept within is = ap contents_in (next places i kept within is)
    ∙ filter_map-append content_in (take i places) (kept ∷ [])

pub posts_kept-next : (places : List (Option Post)) (i : ℕ) (kept : Option Post) → i < length places → kept ≡ get_or places i kept
    → posts_kept (take (i + 1) places) ≡ posts_kept (take i places) ++ posts_kept (kept ∷ [])
posts_kept-next places i kept within is = ap posts_kept (next places i kept within is)
    ∙ filter_map-append (λ o. o) (take i places) (kept ∷ [])

-- whether the place has a content that carries a view
there : (view : List ℕ) (places : List (Option Post)) (i : ℕ) (kept : Option Post) → i < length places → kept ≡ get_or places i kept
    → is_carried view (option_and_then content_in (slice_get places i)) ≡ is_carried view (content_in kept)
there view places i kept within is = ap (λ (o : Option (Option Post)). is_carried view (option_and_then content_in o))
    (slice_get_read places (length places) i kept refl within is)

pub unlike_at-none : (view : List ℕ) (places : List (Option Post)) (i : ℕ) (kept : Option Post) → i < length places
    → kept ≡ get_or places i kept
    → is_carried view (content_in kept) ≡ true → unlike_at view places i ≡ None
unlike_at-none view places i kept within is e = cond-true (is_carried view (option_and_then content_in (slice_get places i))) None (Some i)
    (there view places i kept within is ∙ e)

pub unlike_at-some : (view : List ℕ) (places : List (Option Post)) (i : ℕ) (kept : Option Post) → i < length places
    → kept ≡ get_or places i kept
    → is_carried view (content_in kept) ≡ false → unlike_at view places i ≡ Some i
unlike_at-some view places i kept within is e = cond-false (is_carried view (option_and_then content_in (slice_get places i))) None (Some i)
    (there view places i kept within is ∙ e)
