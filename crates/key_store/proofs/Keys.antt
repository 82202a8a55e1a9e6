-- What is known of a key file, from what its image was read as.
use Rattle.std.proofs.Common.{◌≡◌, ℕ, ◌+◌, ◌-◌, ◌<◌, ◌≤◌, Bool, false, List, length, take, Result, Ok, IfOk, sym, ap, ◌∙◌, subst, arith}
use Rattle.std.proofs.lemmas.List.{length-take, take_all}
use Rattle.lms_tree.specs.declared.secrets.MadeHeight.{MadeHeight}
use Rattle.lms_tree.specs.declared.secrets.MadeHeight.TheVariants.{H5, H10}
use Rattle.lms_tree.specs.Secret.{SecretParts, leaves}
use Rattle.lms_tree.specs.States.{RunState, SecretState, made_leaves}
use Rattle.key_store.specs.declared.layout.Standing.{Standing}
use Rattle.key_store.specs.declared.layout.KeyContent.{KeyContent}
use Rattle.key_store.specs.declared.refusals.StoreRefusal.TheVariants.{Exhausted, OldRound}
use Rattle.key_store.specs.Crashes.{IsPaired}
use Rattle.key_store.specs.History.{Handed}
use Rattle.key_store.specs.KeyFiles.{chosen, key_read, parts_in, stands}
use Rattle.key_store.specs.Store.{IsLoaded, IsSecretOf, KeyState, MayBegin, RoundRefused, begun_by, kept_by, leaves_of}
use Rattle.key_store.proofs.Raised.{kept_read}

-- a key file that says this
pub record IsOf (key : KeyState) (content : KeyContent) : Type 0 where
  pub read : key_read key.image ≡ Ok content
  pub parts : key.parts ≡ parts_in content
  pub kept : kept_by key ≡ content.kept
  pub total : leaves_of key ≡ made_leaves content.height

secret_read : (image : List ℕ) (secret : SecretState) (content : KeyContent) → IsSecretOf (key_read image) secret
    → key_read image ≡ Ok content
    → secret ≡ record { parts = parts_in content; next = content.kept.next }
secret_read image secret content of read = subst (λ (r : Result KeyContent ℕ). IsSecretOf r secret) read of

-- as its callers see it
pub is_of : (key : KeyState) (image : List ℕ) (secret : SecretState) (failed : Bool) (content : KeyContent)
    → ◌≡◌ {A = KeyState} record { parts = secret.parts; image = image; failed = failed } key → IsSecretOf (key_read image) secret
    → key_read image ≡ Ok content
    → IsOf key content
is_of key image secret failed content view of read =
    let parts : key.parts ≡ parts_in content = sym (ap (λ (k : KeyState). k.parts) view)
    ∙ ap (λ (s : SecretState). s.parts) (secret_read image secret content of read) in
    let again : key_read key.image ≡ Ok content = ap key_read (sym (ap (λ (k : KeyState). k.image) view)) ∙ read in
    record {
      read = again;
      parts = parts;
      kept = ap (λ (p : SecretParts). stands (leaves p) key.image) parts ∙ kept_read key.image content again;
      total = ap (λ (p : SecretParts). leaves p) parts;
    }

-- ---- whether a round may begin

module _ (key : KeyState) (content : KeyContent) (round n : ℕ) (of : IsOf key content) (works : key.failed ≡ false) where
  last : (kept_by key).round ≡ content.kept.round
  last = ap (λ (s : Standing). s.round) of.kept

  next : (kept_by key).next ≡ content.kept.next
  next = ap (λ (s : Standing). s.next) of.kept

  pub may_begin : (total : ℕ) → total ≡ made_leaves content.height → content.kept.round < round → n ≤ total - content.kept.next
      → content.kept.next ≤ made_leaves content.height
      → MayBegin key content round n
  may_begin total found later enough within = record {
    works = works;
    read = of.read;
    parts = of.parts;
    kept = of.kept;
    later = later;
    enough = omega (arith, found, enough, within);
  }

  pub is_old : round ≤ content.kept.round → RoundRefused (OldRound content.kept.round) key round n
  is_old old = (works, sym last, omega (arith, last, old))

  pub is_exhausted : (total : ℕ) → total ≡ made_leaves content.height → content.kept.round < round → total - content.kept.next < n
      → RoundRefused (Exhausted content.kept.next) key round n
  is_exhausted total found later short =
      (works, sym next, omega (arith, last, later), omega (arith, next, of.total, found, short))

-- a key file of bytes that were read
pub loaded : (image : List ℕ) (size : ℕ) (content : KeyContent) (secret : SecretState) → key_read (take size image) ≡ Ok content
    → length (take size image) ≡ 128 → length image ≡ 128 → secret ≡ record { parts = parts_in content; next = content.kept.next }
    → IsLoaded (key_read (take size image)) (take size image) record { parts = secret.parts; image = image; failed = false }
loaded image size content secret read front whole made =
    let same : image ≡ take size image = sym (take_all size image (omega (arith, front, whole, length-take size image))) in
    subst (λ (r : Result KeyContent ℕ). IsLoaded r (take size image) record { parts = secret.parts; image = image; failed = false })
    (sym read) (
      ap (λ (s : SecretState). let k : KeyState = record { parts = s.parts; image = image; failed = false } in k) made
          ∙ ap (λ (l : List ℕ). let k : KeyState = record { parts = parts_in content; image = l; failed = false } in k) same,
      ap (λ (s : SecretState). stands (leaves s.parts) image) made
          ∙ ap (λ (l : List ℕ). stands (made_leaves content.height) l) same
          ∙ kept_read (take size image) content read,
    )

-- the numbers of a round fit
pub few_leaves : (h : MadeHeight) → made_leaves h ≤ 1024
few_leaves H5 = omega arith
few_leaves H10 = omega arith

-- ---- a round that has begun

-- the key file of which a slot was raised
pub stands_begun : (key : KeyState) (image now : List ℕ) (secret after : SecretState) (failed : Bool) (content : KeyContent) (round n : ℕ)
    → ◌≡◌ {A = KeyState} record { parts = secret.parts; image = image; failed = failed } key → MayBegin key content round n
    → after ≡ record { parts = secret.parts; next = secret.next + n } → key_read now ≡ Ok (begun_by content round n)
    → stands (leaves after.parts) now ≡ record { round = round; next = (kept_by key).next + n }
stands_begun key image now secret after failed content round n view may risen read =
    ap (λ (p : SecretParts). stands (leaves p) now)
    (ap (λ (s : SecretState). s.parts) risen ∙ ap (λ (k : KeyState). k.parts) view ∙ may.parts)
    ∙ kept_read now (begun_by content round n) read
    ∙ ap (λ (k : Standing). let s : Standing = record { round = round; next = k.next + n } in s) (sym may.kept)

-- what is said of a file that says this, with the slot that is chosen, in the words of the key file
pub as_seen : (P : KeyContent → ℕ → Type 0) (key : KeyState) (image : List ℕ) (secret : SecretState) (failed : Bool) (content : KeyContent)
    (round n : ℕ)
    → ◌≡◌ {A = KeyState} record { parts = secret.parts; image = image; failed = failed } key → MayBegin key content round n
    → (IsPaired image → P content (chosen (made_leaves content.height) image))
    → IfOk (key_read key.image) (λ content. IsPaired key.image → P content (chosen (leaves_of key) key.image))
as_seen P key image secret failed content round n view may holds =
    let same : image ≡ key.image = ap (λ (k : KeyState). k.image) view in
    let total : made_leaves content.height ≡ leaves_of key = sym (ap (λ (p : SecretParts). leaves p) may.parts) in
    subst (λ (r : Result KeyContent ℕ). IfOk r (λ content. IsPaired key.image → P content (chosen (leaves_of key) key.image)))
    (sym may.read) (λ paired. subst (λ (m : ℕ). P content (chosen m key.image)) total
    (subst (λ (l : List ℕ). IsPaired l → P content (chosen (made_leaves content.height) l)) same holds paired))

-- the leaves that were reserved
pub handed_is : (image : List ℕ) (secret : SecretState) (failed : Bool) (key : KeyState) (content : KeyContent)
    (run : RunState) (round n : ℕ)
    → IsSecretOf (key_read image) secret
    → ◌≡◌ {A = KeyState} record { parts = secret.parts; image = image; failed = failed } key → MayBegin key content round n
    → run ≡ record { parts = secret.parts; first = secret.next; left = n }
    → ◌≡◌ {A = Handed} record { round = round; first = content.kept.next; leaves = n } record
    { round = round; first = run.first; leaves = run.left }
handed_is image secret failed key content run round n of view may reserved =
    let read : key_read image ≡ Ok content = ap key_read (ap (λ (k : KeyState). k.image) view) ∙ may.read in
    sym (ap (λ (r : RunState). let h : Handed = record { round = round; first = r.first; leaves = r.left } in h) reserved
    ∙ ap (λ (s : SecretState). let h : Handed = record { round = round; first = s.next; leaves = n } in h)
    (secret_read image secret content of read))
