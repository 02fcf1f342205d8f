-- What is left of a client's script: its labels behind those of its first line; and the client as its first line is handed to its node.
use Rattle.qs_world_runs.proofs.Words.{◌≡◌, ℕ, ◌<◌, ◌==◌, Bool, true, false, List, [], ◌∷◌, ◌++◌, drop, zero, suc, Some, Less, Equal, Greater, refl, sym, ap, ◌∙◌, arith, nat_lt, if◌then◌else◌, slice_get, Ordering, eqb-true, nat_tests, Command, ScriptLine, Clock, Commanded, Handed, Noticed, Queues, Source, handed_by, labels_begun, same_label, Client}
use Rattle.std.proofs.lemmas.Map.Lookups.{exact_bytes}
use Rattle.qs_base.specs.Order.{bytes_cmp}
use Rattle.qs_book_journal.specs.declared.script_line.Command.TheVariants as commands
use Rattle.qs_world.specs.Openings.{label_begun}
use Rattle.qs_world_runs.proofs.LabelsApart.{IsBehind}

-- ---- labels

pub same_turned : (x y : List ℕ) → same_label x y ≡ false → same_label y x ≡ false
same_turned x y far = by (same_label y x) refl
  where
    equal : (r : Ordering) → (elim r [ Less ↦ false | Equal ↦ true | Greater ↦ false ]) ≡ true → r ≡ Equal
    equal Less e = absurd (cc e)
    equal Equal e = refl
    equal Greater e = absurd (cc e)

    by : (b : Bool) → same_label y x ≡ b → b ≡ false
    by false is = refl
    by true is = let same : y ≡ x = exact_bytes y x (equal (bytes_cmp y x) is) in absurd (cc (sym is ∙ (ap (λ (z : List ℕ). same_label z x) same ∙ (ap (λ (z : List ℕ). same_label x z) (sym same) ∙ far))))

-- the label of a first line that begins stands first of those that are left
pub begun_first : (lines : List ScriptLine) (line : ScriptLine) → slice_get lines 0 ≡ Some line → line.command ≡ commands.Begin → labels_begun lines ≡ line.label ∷ labels_begun (drop 1 lines)
begun_first [] line is begins = absurd (cc is)
begun_first (l ∷ rest) line is begins = let same : l ≡ line = cc is in ap (λ (xs : List (List ℕ)). xs ++ labels_begun rest) (ap label_begun same ∙ one line begins)
  where
    one : (line : ScriptLine) → line.command ≡ commands.Begin → label_begun line ≡ line.label ∷ []
    one line begins = ap (λ (c : Command). elim c [
      | commands.Begin ↦ line.label ∷ []
      | commands.Commit ↦ []
      | commands.Abort ↦ []
      | commands.Take ↦ []
      | commands.Yield ↦ []
      | commands.Request member op ↦ []
    ]) begins

pub first_of : (lines : List ScriptLine) (line : ScriptLine) → slice_get lines 0 ≡ Some line → lines ≡ line ∷ drop 1 lines
first_of [] line is = absurd (cc is)
first_of (l ∷ rest) line is = let same : l ≡ line = cc is in ap (λ (x : ScriptLine). x ∷ rest) same

pub behind_first : (lines : List ScriptLine) → IsBehind (labels_begun lines) (labels_begun (drop 1 lines))
behind_first [] = record { front = []; is = refl }
behind_first (l ∷ rest) = record { front = label_begun l; is = refl }

-- ---- the clients

pub at_handed : (s : Source) (cs : ℕ → Client) (k : ℕ) → (handed_by s cs k).at ≡ (cs k).at
at_handed (Commanded j) cs k = by (k == j) refl
  where
    by : (b : Bool) → (k == j) ≡ b → (if b then record (cs j) { is_handed = true } else cs k).at ≡ (cs k).at
    by true is = ap (λ (i : ℕ). (cs i).at) (sym (eqb-true k j is))
    by false is = refl
at_handed (Handed m) cs k = refl
at_handed Queues cs k = refl
at_handed Clock cs k = refl
at_handed (Noticed m new) cs k = refl

pub lines_handed : (s : Source) (cs : ℕ → Client) (k : ℕ) → (handed_by s cs k).lines ≡ (cs k).lines
lines_handed (Commanded j) cs k = by (k == j) refl
  where
    by : (b : Bool) → (k == j) ≡ b → (if b then record (cs j) { is_handed = true } else cs k).lines ≡ (cs k).lines
    by true is = ap (λ (i : ℕ). (cs i).lines) (sym (eqb-true k j is))
    by false is = refl
lines_handed (Handed m) cs k = refl
lines_handed Queues cs k = refl
lines_handed Clock cs k = refl
lines_handed (Noticed m new) cs k = refl

pub later : (i j : ℕ) → nat_lt i j ≡ false → (i == j) ≡ false → j < i
later i j is far = grind (arith, nat_tests, is, far)

pub drop_more : {A : Type 0} (d : ℕ) (xs : List A) → drop 1 (drop d xs) ≡ drop (suc d) xs
drop_more zero xs = refl
drop_more (suc d) [] = refl
drop_more (suc d) (x ∷ xs) = drop_more d xs
