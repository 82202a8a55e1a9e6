-- What a member says: bytes of a content of the grammar in its slot, or bytes that are none.
use Rattle.std.proofs.Common.{◌≡◌, ℕ, ◌<◌, ◌^◌, true, List, length, Option, None, Result, Ok, Err, ap, refl, subst, arith}
use Rattle.std.specs.Prelude.{IfOk, is_ok}
use Rattle.wire_core.specs.Bytes.{IsBytes}
use Rattle.phase_message.specs.declared.content.Content.{Content}
use Rattle.phase_message.specs.declared.post.Post.{Post}
use Rattle.phase_message.specs.declared.stage.Slot.{Slot}
use Rattle.phase_message.specs.Grammar.{OfGrammar, content_text}
use Rattle.phase_message.specs.Offence.{content_read}
use Rattle.phase_message.specs.Shape.{Shape}
use Rattle.phase_message.specs.Stages.{is_slot}
use Rattle.phase_message.proofs.Whole.{content-header, content-is_read, content-is_spelled}
use Rattle.stage_log.specs.Put.{filled_if, put_log}
use Rattle.stage_log.specs.Table.{IsKept, Log, filled, kept_in}
use Rattle.go_nogo.specs.Stands.{StandAll, StandsIn}
use Rattle.go_nogo.proofs.Standing.{stand-put, stand-read}
use Rattle.round_spec.specs.Embedded.{slot_named}
use Rattle.round_spec.proofs.OwnLengths.{content-long}
use Rattle.member_spec.specs.Replies.{HasSlot, KeepsSlot}

-- ---- bytes that are read

pub ok-read : {A E : Type 0} (r : Result A E) → is_ok r ≡ true → (x : A) × (r ≡ Ok x)
ok-read (Ok x) e = (x, refl)
ok-read (Err x) e = absurd cc

-- the spelling of a content names its slot
pub text-slot : (shape : Shape) (content : Content) → OfGrammar shape content → HasSlot (slot_named content.header) (content_text content)
text-slot shape content grammar =
    (content.header, content-header shape (content_text content) content (content-is_read shape content grammar), refl)

-- ---- bytes that are kept

-- what is read can be kept
pub read-kept : (shape : Shape) (bytes : List ℕ) (content : Content) → IsBytes bytes → content_read shape bytes ≡ Ok content
    → length bytes < 2 ^ 32
    → IsKept bytes
read-kept shape bytes content are e short =
    let spelled = content-is_spelled shape bytes content are e in
    let long = ap length spelled.0 in
    record { least = omega (arith, long, content-long shape content spelled.1); most = short }

-- and stands in the slot that it keeps
pub read-stands : (shape : Shape) (slot : Slot) (bytes : List ℕ) (content : Content) → IsBytes bytes → content_read shape bytes ≡ Ok content
    → KeepsSlot shape slot bytes → StandsIn shape slot bytes
read-stands shape slot bytes content are e keeps =
    subst (λ (s : Slot). StandsIn shape s bytes) (keeps content e) (stand-read shape bytes content are e)

-- a post that is put into an empty slot fills it
pub put-fills : (log : Log) (slot : Slot) (post : Post) → kept_in log slot ≡ None → put_log log slot post ≡ filled log slot post
put-fills log slot post none = ap (λ (o : Option Post). filled_if o log (filled log slot post)) none

-- what the log holds goes on to stand in its slots
pub filled-stands : (log : Log) (slot : Slot) (post : Post) → is_slot log.shape slot.stage slot.sender ≡ true → kept_in log slot ≡ None
    → StandsIn log.shape slot post.content → StandAll log → StandAll (filled log slot post)
filled-stands log slot post speaks none stands all =
    subst StandAll (put-fills log slot post none) (λ stage. stand-put log slot post stage speaks (all stage) (λ same. stands))

-- ---- an answer

-- what holds anyway holds of an answer with memory
pub ok-all : {A E : Type 0} (r : Result A E) (Q : A → Type 0) → ((x : A) → Q x) → IfOk r Q
ok-all (Ok x) Q all = all x
ok-all (Err x) Q all = tt
