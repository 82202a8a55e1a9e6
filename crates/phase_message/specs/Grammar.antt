-- The grammar of contents: how a content is spelled, and which contents a group may say.
use Rattle.std.specs.Prelude.{◌≡◌, ℕ, ◌<◌, ◌≤◌, ◌^◌, List, [], ◌∷◌, ◌++◌, length, Bool, true, false, Some}
use Rattle.std.specs.Int.{w64, to_be_bytes}
use Rattle.std.specs.List.{flat_map, AllByRecursion}
use Rattle.ring_poly.specs.PublicKey.{IsPublicKey}
pub use Rattle.wire_core.specs.Bytes.{prefixed}
use Rattle.phase_message.specs.declared.header.Header.{Header}
use Rattle.phase_message.specs.declared.form.ItemForm.{ItemForm}
use Rattle.phase_message.specs.declared.form.ItemForm.TheVariants.{Entry, Post, Pad}
use Rattle.phase_message.specs.declared.form.BodyForm.{BodyForm}
use Rattle.phase_message.specs.declared.form.BodyForm.TheVariants.{Keys as OfKeys, Submit as OfSubmit, Shuffled as OfShuffled, Abort as OfAbort, Go as OfGo, Reveal as OfReveal, Dispute as OfDispute, Pads as OfPads, Check as OfCheck, Confirm as OfConfirm, Differ as OfDiffer}
use Rattle.phase_message.specs.declared.content.Body.{Body}
use Rattle.phase_message.specs.declared.content.Body.TheVariants.{Keys, Submit, Shuffled, Abort, Go, Reveal, Dispute, Pads, Check, Confirm, Differ}
use Rattle.phase_message.specs.declared.content.Content.{Content}
use Rattle.phase_message.specs.Shape.{Shape}
use Rattle.phase_message.specs.Stages.{is_slot}
use Rattle.phase_message.specs.Body.{body_form}

-- ---- spelling

abbrev pub flag_text : Bool → List ℕ
flag_text true = 1 ∷ []
flag_text false = 0 ∷ []

abbrev pub header_text : Header → List ℕ
header_text h =
    (h.version ∷ []) ++ (h.group ++ (to_be_bytes w64 h.round ++ ((h.stage ∷ []) ++ ((h.sender ∷ []) ++ h.view))))

abbrev pub kind_number : Body → ℕ
kind_number (Keys keys) = 1
kind_number (Submit ciphertext) = 2
kind_number (Shuffled list) = 3
kind_number Abort = 4
kind_number (Go vote) = 5
kind_number (Reveal votes seed) = 6
kind_number (Dispute posts seed opening) = 7
kind_number (Pads pads) = 8
kind_number (Check vote) = 9
kind_number (Confirm votes) = 10
kind_number (Differ posts) = 11

abbrev pub body_text : Body → List ℕ
body_text (Keys keys) = flat_map (λ key. key) keys
body_text (Submit ciphertext) = ciphertext
body_text (Shuffled list) = flat_map (λ entry. entry) list
body_text Abort = []
body_text (Go vote) = flag_text vote
body_text (Reveal votes seed) = flat_map prefixed votes ++ seed
body_text (Dispute posts seed opening) = flat_map prefixed posts ++ (seed ++ opening)
body_text (Pads pads) = flat_map prefixed pads
body_text (Check vote) = flag_text vote
body_text (Confirm votes) = flat_map prefixed votes
body_text (Differ posts) = flat_map prefixed posts

-- a header, a kind and a body
abbrev pub content_text : Content → List ℕ
content_text c = header_text c.header ++ ((kind_number c.body ∷ []) ++ body_text c.body)

-- ---- what may be said

abbrev pub IsItem : ItemForm → List ℕ → Type 0
IsItem (Entry n) item = length item ≡ n
IsItem Post item = length item < 2 ^ 32
IsItem Pad item = length item ≤ 65536

abbrev pub AreItems : ItemForm → ℕ → List (List ℕ) → Type 0
AreItems form count items = AllByRecursion (IsItem form) items × (length items ≡ count)

-- a body of a kind has the counts and the lengths that the kind has at the stage
abbrev pub Fits : BodyForm → Body → Type 0
Fits OfKeys (Keys keys) = AllByRecursion IsPublicKey keys × (length keys ≡ 5)
Fits (OfSubmit n) (Submit ciphertext) = length ciphertext ≡ n
Fits (OfShuffled count n) (Shuffled list) = AreItems (Entry n) count list
Fits OfAbort Abort = Unit {0}
Fits OfGo (Go vote) = Unit {0}
Fits (OfReveal count) (Reveal votes seed) = AreItems Post count votes × (length seed ≡ 32)
Fits (OfDispute count) (Dispute posts seed opening) = AreItems Post count posts × (length seed ≡ 32) × (length opening ≡ 32)
Fits (OfPads count) (Pads pads) = AreItems Pad count pads
Fits OfCheck (Check vote) = Unit {0}
Fits (OfConfirm count) (Confirm votes) = AreItems Post count votes
Fits (OfDiffer count) (Differ posts) = AreItems Post count posts
Fits _ _ = ⊥

-- numbers and hashes of a header have their widths
pub record HasWidths (h : Header) : Type 0 where
  pub group_long : length h.group ≡ 32
  pub round_small : h.round < 2 ^ 64
  pub view_long : length h.view ≡ 32

-- bytes begin with a header as it is spelled, whatever follows
pub record BeginsWith (h : Header) (bytes : List ℕ) : Type 0 where
  pub widths : HasWidths h
  pub rest : List ℕ
  pub spelled : bytes ≡ header_text h ++ rest

-- the version of the shape, a slot of the round, and numbers and hashes of their widths
pub record IsHeader (shape : Shape) (h : Header) : Type 0 where
  pub version_is : h.version ≡ shape.version
  pub group_long : length h.group ≡ 32
  pub round_small : h.round < 2 ^ 64
  pub slot_is : is_slot shape h.stage h.sender ≡ true
  pub view_long : length h.view ≡ 32

-- the stage has the body's kind, and the body holds what the kind holds there
abbrev pub IsBody : Shape → ℕ → Body → Type 0
IsBody shape stage body = (form : BodyForm) × (body_form shape stage (kind_number body) ≡ Some form) × Fits form body

-- a content that a member may say in a round of a shape
abbrev pub OfGrammar : Shape → Content → Type 0
OfGrammar shape c = IsHeader shape c.header × IsBody shape c.header.stage c.body

-- a post's and a pad's length stands in four bytes
abbrev pub ItemsAreShort : Body → Type 0
ItemsAreShort (Reveal votes seed) = AllByRecursion (λ item. length item < 2 ^ 32) votes
ItemsAreShort (Dispute posts seed opening) = AllByRecursion (λ item. length item < 2 ^ 32) posts
ItemsAreShort (Pads pads) = AllByRecursion (λ item. length item < 2 ^ 32) pads
ItemsAreShort (Confirm votes) = AllByRecursion (λ item. length item < 2 ^ 32) votes
ItemsAreShort (Differ posts) = AllByRecursion (λ item. length item < 2 ^ 32) posts
ItemsAreShort _ = Unit {0}
