-- What a content of fewer than 2^32 bytes holds has fewer.
use Rattle.std.proofs.Common.{◌≡◌, ℕ, zero, suc, ◌<◌, ◌^◌, List, [], ◌∷◌, ◌++◌, length, All, arith, subst}
use Rattle.std.specs.List.{flat_map}
use Rattle.std.proofs.lemmas.List.{length-append}
use Rattle.phase_message.specs.declared.content.Body.{Body}
use Rattle.phase_message.specs.declared.content.Body.TheVariants.{Keys, Submit, Shuffled, Abort, Go, Reveal, Dispute, Pads, Check, Confirm, Differ}
use Rattle.phase_message.specs.declared.content.Content.{Content}
use Rattle.phase_message.specs.Grammar.{body_text, content_text, header_text, kind_number}
use Rattle.shuffle_blame.specs.Rules.{IsShort}

entries_short : (list : List (List ℕ)) (n : ℕ) → length (flat_map (λ entry. entry) list) < n → All (λ entry. length entry < n) list
entries_short [] n lt k d below = absurd (omega arith)
entries_short (entry ∷ list) n lt zero d below = omega (arith, length-append entry (flat_map (λ entry. entry) list))
entries_short (entry ∷ list) n lt (suc k) d below = entries_short list n
    (omega (arith, length-append entry (flat_map (λ entry. entry) list))) k d (omega arith)

short_text : (front : List ℕ) (body : Body) → length (front ++ ((kind_number body ∷ []) ++ body_text body)) < 2 ^ 32 → IsShort body
short_text front (Submit ciphertext) lt = omega (arith, length-append front (2 ∷ ciphertext))
short_text front (Shuffled list) lt = entries_short list (2 ^ 32) (omega (arith, length-append front (3 ∷ flat_map (λ entry. entry) list)))
short_text front (Keys keys) lt = tt
short_text front Abort lt = tt
short_text front (Go vote) lt = tt
short_text front (Reveal votes seed) lt = tt
short_text front (Dispute posts seed opening) lt = tt
short_text front (Pads pads) lt = tt
short_text front (Check vote) lt = tt
short_text front (Confirm votes) lt = tt
short_text front (Differ posts) lt = tt

pub short_body : (c : Content) (bytes : List ℕ) → bytes ≡ content_text c → length bytes < 2 ^ 32 → IsShort c.body
short_body c bytes spelled lt = short_text (header_text c.header) c.body (subst (λ (b : List ℕ). length b < 2 ^ 32) spelled lt)
