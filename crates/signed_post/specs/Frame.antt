-- The frame of a post: how its bytes are laid out.
use Rattle.std.specs.Prelude.{◌≡◌, ℕ, ◌+◌, ◌≤◌, ◌↔◌, List, [], ◌∷◌, ◌++◌, length, take, drop, Bool, ◌&&◌, nat_le, Option, Some, None, Result, Ok}
use Rattle.std.specs.Int.{w32, to_be_bytes}
use Rattle.wire_core.specs.Bytes.{IsBytes}
use Rattle.phase_message.specs.declared.post.Post.{Post}
use Rattle.phase_message.specs.declared.post.TheConstants.{LEAST_CONTENT, POST_LIMIT}
use Rattle.phase_message.specs.Post.{post_spelling}
use Rattle.wire_core.specs.Answers.{first_some, fault_unless, value_unless}
use Rattle.signed_post.specs.declared.post.ReadRefusal.{ReadRefusal}
use Rattle.signed_post.specs.declared.post.ReadRefusal.TheVariants.{Frame as ReadFrame, Memory as ReadMemory}
use Rattle.wire_core.specs.Places.{word_at}

-- The first place at which bytes are no post: at 0 where they are too many, or the content's length
-- is too small for a header and a kind; at their number where they end within a field.
abbrev pub frame_fault : List ℕ → Option ℕ
frame_fault bytes = first_some (
    fault_unless (nat_le (length bytes) POST_LIMIT) 0
    ∷ fault_unless (nat_le 4 (length bytes)) (length bytes)
    ∷ fault_unless (nat_le LEAST_CONTENT (word_at bytes 0)) 0
    ∷ fault_unless (nat_le (4 + word_at bytes 0) (length bytes)) (length bytes)
    ∷ [])

-- the content and the signature that bytes without a fault spell
abbrev pub spelled_post : List ℕ → Post
spelled_post bytes = record {
  content = take (word_at bytes 0) (drop 4 bytes);
  signature = drop (4 + word_at bytes 0) bytes;
}

-- the post that bytes spell, or their first fault
unfoldable pub frame_of : List ℕ → Result Post ℕ
frame_of bytes = value_unless (frame_fault bytes) (spelled_post bytes)

-- a content and a signature that can be sent: they are what some bytes spell
pub record FitsFrame (post : Post) : Type 0 where
  pub least : LEAST_CONTENT ≤ length post.content
  pub most : 4 + (length post.content + length post.signature) ≤ POST_LIMIT

abbrev pub fits_frame : Post → Bool
fits_frame post =
    nat_le LEAST_CONTENT (length post.content)
    && nat_le (4 + (length post.content + length post.signature)) POST_LIMIT

-- bytes that spell a post in a frame have no fault and are read as it, and others have a fault
abbrev pub FramedExactly : Type 0
FramedExactly = (bytes : List ℕ) (post : Post) → IsBytes bytes
    → (frame_of bytes ≡ Ok post) ↔ (FitsFrame post × (bytes ≡ post_spelling post))

-- which refusals a reader answers: the fault of the frame, or that memory is wanting
abbrev pub fault_of_refusal : ReadRefusal → Option ℕ
fault_of_refusal (ReadFrame at) = Some at
fault_of_refusal ReadMemory = None
