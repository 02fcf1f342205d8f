-- Changes that write files, added behind others.
use Rattle.std.proofs.Common.{◌≡◌, ℕ, ◌<◌, List, [], ◌∷◌, ◌++◌, length, take, drop, map, Option, Some, None, refl, sym, ap, ◌∙◌, subst}
use Rattle.std.proofs.lemmas.List.{append_assoc, append-nil}
use Rattle.qs_ops.specs.Server.{AreAppends, AreFilesWritten, none, next}
use Rattle.qs_ops.specs.declared.file.File.{File}
use Rattle.qs_ops.specs.declared.operation.Op.{Op}
use Rattle.qs_ops.specs.declared.operation.Op.TheVariants.{Put, Append}
use Rattle.qs_files_contents.specs.Slots.{files_in, text_at}
use Rattle.qs_files_contents.specs.Written.{AddsAppends, AddsFile, AddsFiles}
use Rattle.qs_files_contents.specs.declared.slot.FileText.{FileText}

-- one change more stands before the further ones
behind : (out new more : List Op) (op : Op) → new ≡ out ++ op ∷ [] → out ++ op ∷ more ≡ new ++ more
behind out new more op is = sym (ap (λ (l : List Op). l ++ more) is ∙ append_assoc out (op ∷ []) more)

pub appends_on : (name text rest front back : List ℕ) (old out new : List Op) → front ≡ take 4096 rest → back ≡ drop 4096 rest → 0 < length rest → new ≡ out ++ Append name front ∷ []
    → ((more : List Op) → AreAppends name rest more → AddsAppends name text old (out ++ more)) → (more : List Op) → AreAppends name back more → AddsAppends name text old (new ++ more)
appends_on name text rest front back old out new is_front is_back some is all more are =
    subst (λ (l : List Op). AddsAppends name text old l) (behind out new more (Append name front) is)
    (all (Append name front ∷ more) (ap (λ (l : List ℕ). Append name l) is_front, (some, subst (λ (l : List ℕ). AreAppends name l more) is_back are)))

nothing : (xs : List ℕ) → length xs ≡ 0 → xs ≡ []
nothing [] is = refl
nothing (x ∷ xs) is = absurd (cc)

pub appends_end : (name text rest : List ℕ) (old out : List Op) → length rest ≡ 0 → ((more : List Op) → AreAppends name rest more → AddsAppends name text old (out ++ more)) → AddsAppends name text old out
appends_end name text rest old out is all = subst (λ (l : List Op). AddsAppends name text old l) (append-nil out) (all [] (nothing rest is))

pub appends_begin : (name text : List ℕ) (old : List Op) (more : List Op) → AreAppends name text more → AddsAppends name text old (old ++ more)
appends_begin name text old more are = (more, refl, are)

pub file_begun : (name text front rest : List ℕ) (old mid new : List Op) → front ≡ take 4096 text → rest ≡ drop 4096 text → mid ≡ old ++ Put name front ∷ [] → AddsAppends name rest mid new → AddsFile name text old new
file_begun name text front rest old mid new is_front is_rest is added = (
  Put name front ∷ added.0,
  added.1 ∙ sym (behind old mid added.0 (Put name front) is),
  (ap (λ (l : List ℕ). Put name l) is_front, subst (λ (l : List ℕ). AreAppends name l added.0) is_rest added.2),
)

-- ---- the file of a slot

abbrev files_at : List ℕ → Option (List ℕ) → List File
files_at name o = elim o as (λ _. List File) [ None ↦ [] | Some t ↦ record { name = name; content = t } ∷ [] ]

pub adds-none : (name : List ℕ) (slot : FileText) (old : List Op) → text_at slot ≡ None → AddsFiles (files_in ((name, slot) ∷ [])) old old
adds-none name slot old is = subst (λ (o : Option (List ℕ)). AddsFiles (files_at name o) old old) (sym is) ([], sym (append-nil old), none)

pub adds-some : (name text : List ℕ) (slot : FileText) (old new : List Op) → text_at slot ≡ Some text → AddsFile name text old new → AddsFiles (files_in ((name, slot) ∷ [])) old new
adds-some name text slot old new is added =
    let file : File = record { name = name; content = text } in
    subst (λ (o : Option (List ℕ)). AddsFiles (files_at name o) old new) (sym is)
    (added.0, added.1, subst (λ (l : List Op). AreFilesWritten (file ∷ []) l) (append-nil added.0) (next file [] added.0 [] added.2 none))

-- ---- files one after the other

written-append : (fs gs : List File) (xs ys : List Op) → AreFilesWritten fs xs → AreFilesWritten gs ys → AreFilesWritten (fs ++ gs) (xs ++ ys)
written-append fs gs xs ys none more = more
written-append fs gs xs ys (next file files first rest is others) more =
    subst (λ (l : List Op). AreFilesWritten (file ∷ files ++ gs) l) (sym (append_assoc first rest ys))
    (next file (files ++ gs) first (rest ++ ys) is (written-append files gs rest ys others more))

module _ {X : Type 0} (entry_of : X → List ℕ × FileText) where
  files-more : (xs : List X) (x : X) → files_in (map entry_of (xs ++ x ∷ [])) ≡ files_in (map entry_of xs) ++ files_in (entry_of x ∷ [])
  files-more [] x = refl
  files-more (y ∷ xs) x =
      elim (text_at (entry_of y).1) as (λ o. (elim o as (λ _. List File) [ None ↦ files_in (map entry_of (xs ++ x ∷ [])) | Some t ↦ record { name = (entry_of y).0; content = t } ∷ files_in (map entry_of (xs ++ x ∷ [])) ])
      ≡ (elim o as (λ _. List File) [ None ↦ files_in (map entry_of xs) | Some t ↦ record { name = (entry_of y).0; content = t } ∷ files_in (map entry_of xs) ]) ++ files_in (entry_of x ∷ [])) [
        | None ↦ files-more xs x
        | Some t ↦ ap (λ (fs : List File). record { name = (entry_of y).0; content = t } ∷ fs) (files-more xs x)
      ]

  pub written_on : (xs : List X) (x : X) (old new : List Op) → AreFilesWritten (files_in (map entry_of xs)) old → AddsFiles (files_in (entry_of x ∷ [])) old new → AreFilesWritten (files_in (map entry_of (xs ++ x ∷ []))) new
  written_on xs x old new are added =
      subst (λ (l : List Op). AreFilesWritten (files_in (map entry_of (xs ++ x ∷ []))) l) (sym added.1)
      (subst (λ (fs : List File). AreFilesWritten fs (old ++ added.0)) (sym (files-more xs x))
      (written-append (files_in (map entry_of xs)) (files_in (entry_of x ∷ [])) old added.0 are added.2))

pub written_none : (ops : List Op) → ops ≡ [] → AreFilesWritten [] ops
written_none ops is = subst (λ (l : List Op). AreFilesWritten [] l) (sym is) none
