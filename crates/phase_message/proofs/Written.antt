-- What the writing of a content needs: its items are short, and a piece more of a list.
use Rattle.std.proofs.Common.{◌≡◌, ℕ, suc, ◌+◌, ◌<◌, ◌≤◌, ◌^◌, List, [], ◌∷◌, ◌++◌, length, take, get_or, ap, sym, ◌∙◌, arith, append-nil}
use Rattle.std.specs.List.{flat_map, AllByRecursion}
use Rattle.std.proofs.Math.Seq.{take-suc}
use Rattle.std.proofs.lemmas.Grind.{flat_map-append}
use Rattle.phase_message.specs.declared.form.BodyForm.{BodyForm}
use Rattle.phase_message.specs.declared.form.BodyForm.TheVariants.{Pads as OfPads, Reveal as OfReveal, Dispute as OfDispute, Confirm as OfConfirm, Differ as OfDiffer}
use Rattle.phase_message.specs.declared.content.Body.{Body}
use Rattle.phase_message.specs.declared.content.Body.TheVariants.{Keys, Submit, Shuffled, Abort, Go, Reveal, Dispute, Pads, Check, Confirm, Differ}
use Rattle.phase_message.specs.Grammar.{Fits, ItemsAreShort}

pads_short : (pads : List (List ℕ)) → AllByRecursion (λ pad. length pad ≤ 65536) pads → AllByRecursion (λ pad. length pad < 2 ^ 32) pads
pads_short [] all = tt
pads_short (pad ∷ pads) all = (let few = all.0 in omega arith, pads_short pads all.1)

pub fits-short : (form : BodyForm) (body : Body) → Fits form body → ItemsAreShort body
fits-short (OfReveal count) (Reveal votes seed) fits = fits.0.0
fits-short (OfDispute count) (Dispute posts seed opening) fits = fits.0.0
fits-short (OfPads count) (Pads pads) fits = pads_short pads fits.0
fits-short (OfConfirm count) (Confirm votes) fits = fits.0
fits-short (OfDiffer count) (Differ posts) fits = fits.0
fits-short form (Keys keys) fits = tt
fits-short form (Submit ciphertext) fits = tt
fits-short form (Shuffled list) fits = tt
fits-short form Abort fits = tt
fits-short form (Go vote) fits = tt
fits-short form (Check vote) fits = tt
fits-short _ _ fits = absurd fits

-- a list's pieces, and one more
pub pieces-next : (f : List ℕ → List ℕ) (xs : List (List ℕ)) (i : ℕ) (x : List ℕ) → i < length xs → x ≡ get_or xs i x
    → flat_map f (take (i + 1) xs) ≡ flat_map f (take i xs) ++ f x
pieces-next f xs i x within is =
    let next : i + 1 ≡ suc i = omega arith in
    ap (λ (k : ℕ). flat_map f (take k xs)) next
    ∙ ap (flat_map f) (take-suc xs i x within)
    ∙ flat_map-append f (take i xs) (get_or xs i x ∷ [])
    ∙ ap (λ (t : List ℕ). flat_map f (take i xs) ++ t) (append-nil (f (get_or xs i x)))
    ∙ ap (λ (t : List ℕ). flat_map f (take i xs) ++ f t) (sym is)
