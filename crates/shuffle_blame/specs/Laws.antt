-- What holds of a replay.
use Rattle.std.specs.Prelude.{◌≡◌, ◌≢◌, ◌⊎◌, ◌↔◌, ℕ, ◌-◌, ◌<◌, ◌≤◌, ◌^◌, List, [], map, take, length, true, false, Some, None, Ok, IsSome, IsTrue, AllPairs, Contains, IsPermutation, slice_index_or}
use Rattle.std.specs.List.{range_with_len}
use Rattle.wire_core.specs.Hash.{NoCollision, layer_seed_string}
use Rattle.ring_encrypt.specs.Capsule.{key_of_seed}
use Rattle.layer_cipher.specs.Layer.{opened_through}
use Rattle.layer_cipher.specs.Stripping.{stripped_through}
use Rattle.phase_message.specs.declared.content.Body.TheVariants.{Keys}
use Rattle.phase_message.specs.declared.content.Content.{Content}
use Rattle.phase_message.specs.Offence.{content_read}
use Rattle.phase_message.specs.Stages.{is_slot}
use Rattle.stage_log.specs.Log.{is_right}
use Rattle.shuffle_blame.specs.Replay.{Inquiry, OUTER, bytes_in, culprit_of, is_permutation, is_turn, list_after, outer_opening, outer_place, outer_seed, outer_seeds, own_layer_seed, seed_fault, submission, submission_fault, submissions, turn_fault, body_in, view_fault, votes_yes}

-- the numbers of members, and of layers and turns, are 1, 2, .., to the last
pub record IsMember (q : Inquiry) (member : ℕ) : Type 0 where
  pub least : 1 ≤ member
  pub most : member ≤ q.shape.members

-- ---- votes

-- a member's vote in the stage before is this content
pub record IsVote (q : Inquiry) (member : ℕ) (vote : Content) : Type 0 where
  pub speaks : IsTrue (is_slot q.shape (q.stage - 1) member)
  pub read : content_read q.shape (bytes_in q (q.stage - 1) member) ≡ Ok vote

-- two votes that carry different views
pub record HasTwoViews (q : Inquiry) : Type 0 where
  pub member : ℕ
  pub other : ℕ
  pub vote : Content
  pub other_vote : Content
  pub said : IsVote q member vote
  pub other_said : IsVote q other other_vote
  pub unlike : vote.header.view ≢ other_vote.header.view

-- somebody voted no
abbrev pub HasNo : Inquiry → Type 0
HasNo q = (member : ℕ) × IsMember q member × (votes_yes q member ≡ false)

-- where a vote is no, or two carry different views, the replay names somebody
abbrev pub UnlikeVotesBlame : Type 0
UnlikeVotesBlame = (q : Inquiry) → 1 ≤ q.stage → HasNo q ⊎ HasTwoViews q → IsSome (culprit_of q)

-- ---- no fault of one rule

-- every slot before the closing stage carries the view of its stage
abbrev pub NoViewFault : Type 0
NoViewFault = (q : Inquiry) (stage sender : ℕ) → view_fault q ≡ None → IsTrue (is_slot q.shape stage sender) → stage < q.stage →
    IsTrue (is_right q.shape q.past (record { stage = stage; sender = sender }))

-- each member said keys, and the outer one is that of the outer seed that it shows
abbrev pub NoSeedFault : Type 0
NoSeedFault = (q : Inquiry) (shuffle member : ℕ) → seed_fault q shuffle ≡ None → IsMember q member →
    (keys : List (List ℕ)) × (body_in q 0 member ≡ Keys keys)
    × (key_of_seed (outer_seed q member) ≡ slice_index_or keys (outer_place shuffle) [])

-- the seeds of the first layers of a member's submission, by the opening that it shows
abbrev pub own_layer_seeds : Inquiry → ℕ → ℕ → ℕ → List (List ℕ)
own_layer_seeds q shuffle member layers = map (own_layer_seed q shuffle member) (range_with_len 1 layers)

-- a submission opens through its first layers by the shown outer seeds, and these carry its layer seeds
abbrev pub NoSubmissionFault : Type 0
NoSubmissionFault = (q : Inquiry) (shuffle member layers : ℕ) → submission_fault q shuffle ≡ None → IsMember q member →
    layers ≤ q.shape.members → q.shape.members ≤ length q.shown →
    (body : List ℕ)
    × (opened_through (take layers (outer_seeds q)) (submission q member) ≡ Some (own_layer_seeds q shuffle member layers, body))

-- ---- the lists of a shuffle

-- the test of another order is exact
abbrev pub PermutationsAreFound : Type 0
PermutationsAreFound = (list bodies : List (List ℕ)) → (is_permutation list bodies ≡ true) ↔ IsPermutation bodies list

-- the submissions are stripped through so many layers, and a list is what is left of them, in some order
pub record HasStripped (q : Inquiry) (layers : ℕ) : Type 0 where
  pub list : List (List ℕ)
  pub bodies : List (List ℕ)
  pub said : list_after q layers ≡ Some list
  pub stripped : stripped_through (take layers (outer_seeds q)) (submissions q) ≡ Some bodies
  pub order : IsPermutation bodies list

-- so it is after some turns, of which none is at fault
abbrev pub ListsAreStripped : Type 0
ListsAreStripped = (q : Inquiry) (turns : ℕ) → turns ≤ length q.shown →
    ((turn : ℕ) → 1 ≤ turn → turn ≤ turns → IsTrue (is_turn q turn)) → HasStripped q turns

-- and of the last list, where no turn is at fault
abbrev pub LastListHas : Type 0
LastListHas = (q : Inquiry) → q.shape.members ≤ length q.shown → turn_fault q ≡ None → HasStripped q q.shape.members

-- strings of which no two have one hash, and among them are those of the layer seeds that are shown
pub record HasShownStrings (q : Inquiry) (shuffle : ℕ) (strings : List (List ℕ)) : Type 0 where
  pub distinct : NoCollision strings
  pub openings : (member : ℕ) → IsMember q member → length (outer_opening q member) ≡ 32
  pub round_small : q.round < 2 ^ 64
  pub shown : (member layer : ℕ) → IsMember q member → IsMember q layer →
      Contains strings (layer_seed_string (outer_opening q member) q.round shuffle OUTER member layer)

-- what is left of the submissions before a turn is distinct, where no submission is at fault
abbrev pub StrippedAreDistinct : Type 0
StrippedAreDistinct = (q : Inquiry) (shuffle layers : ℕ) (strings bodies : List (List ℕ)) → HasShownStrings q shuffle strings →
    submission_fault q shuffle ≡ None → layers < q.shape.members → q.shape.members ≤ length q.shown →
    stripped_through (take layers (outer_seeds q)) (submissions q) ≡ Some bodies →
    AllPairs (λ body later. body ≢ later) bodies
