-- The frames and the posts of calls, and of more calls behind them.
use Rattle.std.proofs.Common.{◌≡◌, ℕ, List, [], ◌∷◌, ◌++◌, Some, None, refl, ap}
use Rattle.round_link.specs.declared.link_call.LinkCall.{LinkCall}
use Rattle.round_link.specs.declared.link_call.LinkCall.TheVariants.{Received, Posted}
use Rattle.round_link.specs.Traffic.{frames_in, posts_in}

pub frames_in-append : (calls more : List LinkCall) → frames_in (calls ++ more) ≡ frames_in calls ++ frames_in more
frames_in-append [] more = refl
frames_in-append (Received (Some frame) ∷ calls) more = ap (λ (l : List (List ℕ)). frame ∷ l) (frames_in-append calls more)
frames_in-append (Received None ∷ calls) more = frames_in-append calls more
frames_in-append (Posted bytes ∷ calls) more = frames_in-append calls more

pub posts_in-append : (calls more : List LinkCall) → posts_in (calls ++ more) ≡ posts_in calls ++ posts_in more
posts_in-append [] more = refl
posts_in-append (Received (Some frame) ∷ calls) more = posts_in-append calls more
posts_in-append (Received None ∷ calls) more = posts_in-append calls more
posts_in-append (Posted bytes ∷ calls) more = ap (λ (l : List (List ℕ)). bytes ∷ l) (posts_in-append calls more)
