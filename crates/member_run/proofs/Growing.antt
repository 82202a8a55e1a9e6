-- The posts of a plain member grow with what is delivered.
use Rattle.std.proofs.Common.{◌≡◌, ℕ, ◌≤◌, List, [], ◌∷◌, ◌++◌, length, map, drop, sym, ap, ◌∙◌, arith}
use Rattle.std.specs.Prelude.{All}
use Rattle.std.proofs.lemmas.List.{drop-append-le, length-map, map-append}
use Rattle.std.proofs.lemmas.List.Elements.{All-push}
use Rattle.wire_core.specs.Bytes.{IsBytes}
use Rattle.phase_message.specs.declared.post.Post.{Post}
use Rattle.phase_message.specs.Post.{post_spelling}
use Rattle.round_spec.specs.Result.{posts_of}
use Rattle.round_spec.specs.Say.{Configuration}
use Rattle.member_spec.specs.Growing.{GoesOnTo}
use Rattle.member_spec.specs.Replies.{Replies}
use Rattle.member_spec.proofs.Growing.{posts_grow}
use Rattle.member_spec.proofs.PlainLaws.{plain_comes_to_result}
use Rattle.member_core.specs.Membership.{Membership}
use Rattle.member_core.specs.Promises.{IsPlainMember}
use Rattle.member_run.specs.Ran.{posts_due}

-- with one string more there are the posts of before, and others behind them
posts-grow : {A : Type 0} (replies_of : A → Replies) (c : Configuration) (delivered : List (List ℕ)) (bytes : List ℕ) (m : Membership A)
    → IsPlainMember replies_of c delivered m → IsBytes bytes → GoesOnTo (posts_of c delivered) (posts_of c (delivered ++ bytes ∷ []))
posts-grow replies_of c delivered bytes m is are =
    let strings = is.stands.strings in
    let enters = is.stands.stands.can_enter in
    let all : All IsBytes (delivered ++ bytes ∷ []) = All-push IsBytes delivered bytes strings are in
    let before = (plain_comes_to_result is.start c delivered is.plain enters strings).posts in
    let now = (plain_comes_to_result is.start c (delivered ++ bytes ∷ []) is.plain enters all).posts in
    let grown = posts_grow is.start c delivered bytes in
    (grown.0, sym now ∙ grown.1 ∙ ap (λ (posts : List Post). posts ++ grown.0) before)

-- so there are the posts that were due, and others behind them
pub due-grow : {A : Type 0} (replies_of : A → Replies) (c : Configuration) (delivered : List (List ℕ)) (bytes : List ℕ) (m : Membership A)
    → IsPlainMember replies_of c delivered m → IsBytes bytes
    → (more : List (List ℕ)) × ((handed : ℕ) → handed ≤ length (posts_of c delivered)
    → posts_due c (delivered ++ bytes ∷ []) handed ≡ posts_due c delivered handed ++ more)
due-grow replies_of c delivered bytes m is are =
    let grown = posts-grow replies_of c delivered bytes m is are in
    let more = map post_spelling grown.0 in (
      more,
      λ handed within.
          ap (λ (posts : List Post). drop handed (map post_spelling posts)) grown.1
          ∙ ap (drop handed) (map-append post_spelling (posts_of c delivered) grown.0)
          ∙ drop-append-le handed (map post_spelling (posts_of c delivered)) more (omega (arith, within, length-map (posts_of c delivered) post_spelling)),
    )
