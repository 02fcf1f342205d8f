-- Labels that stand once in a script stand once over all of its clients: a label is begun by the client of one line.
use Rattle.std.proofs.Common.{◌≡◌, ℕ, ◌+◌, ◌≤◌, ◌==◌, ◌&&◌, ◌||◌, ◌++◌, not, Bool, true, false, List, [], ◌∷◌, refl, sym, ap, subst, ◌∙◌, arith, if◌then◌else◌}
use Rattle.std.specs.Prelude.{zero, suc}
use Rattle.std.specs.Cmp.Lexicographic.{texts_ties}
use Rattle.std.proofs.lemmas.Bool.Decides.{nat_tests}
use Rattle.std.proofs.lemmas.List.Folds.{list_any-append}
use Rattle.qs_base.proofs.Same.{same_bytes-self, same_bytes-true}
use Rattle.qs_base.proofs.TidOrder.{or-false}
use Rattle.qs_base.specs.Order.{same_bytes}
use Rattle.qs_base.specs.declared.identifiers.ClientNo.{ClientNo}
use Rattle.qs_book_journal.specs.declared.script_line.Command.{Command}
use Rattle.qs_book_journal.specs.declared.script_line.Command.TheVariants as commands
use Rattle.qs_book_journal.specs.declared.script_line.ScriptLine.{ScriptLine}
use Rattle.qs_world_plans.specs.Plan.{commands_of}
use Rattle.qs_text_script.specs.Rules.{begins_line, is_begin, is_begun, is_owner}
use Rattle.qs_world.specs.Openings.{all_below, are_apart, has_label, label_begun, labels_begun, same_label}

-- ---- the labels that lines begin are those that the rules of scripts find

same_so : (x y : List ℕ) → same_label x y ≡ same_bytes y x
same_so x y = sym (texts_ties x y) ∙ by (same_bytes x y) (same_bytes y x) refl refl
  where
    by : (a b : Bool) → same_bytes x y ≡ a → same_bytes y x ≡ b → a ≡ b
    by true true one other = refl
    by false false one other = refl
    by true false one other = absurd (let e : same_bytes y x ≡ true = subst (λ (z : List ℕ). same_bytes z x ≡ true) (same_bytes-true x y one) (same_bytes-self x) in cc (e, other))
    by false true one other = absurd (let e : same_bytes x y ≡ true = subst (λ (z : List ℕ). same_bytes z y ≡ true) (same_bytes-true y x other) (same_bytes-self y) in cc (e, one))

begins_so : (x : List ℕ) (client : ClientNo) (number : ℕ) (label : List ℕ) (command : Command)
    → has_label (label_begun (record { client = client; line = number; label = label; command = command })) x ≡ begins_line x (record { client = client; line = number; label = label; command = command })
begins_so x client number label commands.Begin = or-false (same_label x label) ∙ same_so x label
begins_so x client number label commands.Commit = refl
begins_so x client number label commands.Abort = refl
begins_so x client number label commands.Take = refl
begins_so x client number label commands.Yield = refl
begins_so x client number label (commands.Request member op) = refl

pub begun_as : (x : List ℕ) (lines : List ScriptLine) → has_label (labels_begun lines) x ≡ is_begun lines x
begun_as x [] = refl
begun_as x (line ∷ lines) = list_any-append (same_label x) (label_begun line) (labels_begun lines)
    ∙ (λ i. begins_so x line.client line.line line.label line.command i || begun_as x lines i)

pub owned_as : (x : List ℕ) (client : ClientNo) (lines : List ScriptLine) → has_label (labels_begun (commands_of client lines)) x ≡ is_owner lines client.0 x
owned_as x client [] = refl
owned_as x client (line ∷ lines) = by (line.client.0 == client.0) (owned_as x client lines)
  where
    nothing : (b : Bool) → false ≡ (b && false)
    nothing true = refl
    nothing false = refl

    by : (b : Bool) → has_label (labels_begun (commands_of client lines)) x ≡ is_owner lines client.0 x
        → has_label (labels_begun ((if b then line ∷ [] else []) ++ commands_of client lines)) x ≡ ((is_begin line.command && (b && same_bytes line.label x)) || is_owner lines client.0 x)
    by true rest = list_any-append (same_label x) (label_begun line) (labels_begun (commands_of client lines))
        ∙ (λ i. begins_so x line.client line.line line.label line.command i || rest i)
    by false rest = rest ∙ ap (λ b. b || is_owner lines client.0 x) (nothing (is_begin line.command))

-- ---- how often a label stands in a list

abbrev more : Bool → ℕ → ℕ
more true n = n + 1
more false n = n

abbrev times : List ℕ → List (List ℕ) → ℕ
times x [] = 0
times x (label ∷ labels) = more (same_label x label) (times x labels)

times_both : (x : List ℕ) (xs ys : List (List ℕ)) → times x (xs ++ ys) ≡ times x xs + times x ys
times_both x [] ys = grind (arith)
times_both x (label ∷ xs) ys = by (same_label x label) (times x (xs ++ ys)) (times x xs) (times x ys) (times_both x xs ys)
  where
    by : (b : Bool) (n m k : ℕ) → n ≡ m + k → more b n ≡ more b m + k
    by true n m k is = grind (arith, is)
    by false n m k is = is

none_so : (x : List ℕ) (labels : List (List ℕ)) → has_label labels x ≡ false → times x labels ≡ 0
none_so x [] none = refl
none_so x (label ∷ labels) none = by (same_label x label) none (none_so x labels)
  where
    by : (b : Bool) → (b || has_label labels x) ≡ false → (has_label labels x ≡ false → times x labels ≡ 0) → more b (times x labels) ≡ 0
    by true none rest = absurd (cc none)
    by false none rest = rest none

so_none : (x : List ℕ) (labels : List (List ℕ)) → times x labels ≡ 0 → has_label labels x ≡ false
so_none x [] zero_times = refl
so_none x (label ∷ labels) zero_times = by (same_label x label) zero_times (so_none x labels)
  where
    by : (b : Bool) → more b (times x labels) ≡ 0 → (times x labels ≡ 0 → has_label labels x ≡ false) → (b || has_label labels x) ≡ false
    by true zero_times rest = absurd (grind (arith, zero_times))
    by false zero_times rest = rest zero_times

unlike : (a b : Bool) → (not a && b) ≡ true → (a ≡ false) × (b ≡ true)
unlike true b is = absurd (cc is)
unlike false b is = (refl, is)

apart_few : (labels : List (List ℕ)) → are_apart labels ≡ true → (x : List ℕ) → times x labels ≤ 1
apart_few [] apart x = grind (arith)
apart_few (label ∷ labels) apart x = by (same_label x label) refl (apart_few labels (unlike (has_label labels label) (are_apart labels) apart).1 x)
  where
    few : (n : ℕ) → n ≡ 0 → n + 1 ≤ 1
    few n none = grind (arith, none)

    by : (b : Bool) → same_label x label ≡ b → times x labels ≤ 1 → more b (times x labels) ≤ 1
    by true same rest = few (times x labels) (none_so x labels (subst (λ (l : List ℕ). has_label labels l ≡ false) (same_bytes-true label x (sym (same_so x label) ∙ same)) (unlike (has_label labels label) (are_apart labels) apart).0))
    by false other rest = rest

few_apart : (labels : List (List ℕ)) → ((x : List ℕ) → times x labels ≤ 1) → are_apart labels ≡ true
few_apart [] few = refl
few_apart (label ∷ labels) few = by (has_label labels label) (are_apart labels) (so_none label labels once) (few_apart labels rest)
  where
    itself : same_label label label ≡ true
    itself = same_so label label ∙ same_bytes-self label

    first : (b : Bool) (n : ℕ) → b ≡ true → more b n ≤ 1 → n ≡ 0
    first true n is le = grind (arith, le)
    first false n is le = absurd (cc is)

    less : (b : Bool) (n : ℕ) → more b n ≤ 1 → n ≤ 1
    less true n le = grind (arith, le)
    less false n le = le

    once : times label labels ≡ 0
    once = first (same_label label label) (times label labels) itself (few label)

    rest : (x : List ℕ) → times x labels ≤ 1
    rest x = less (same_label x label) (times x labels) (few x)

    by : (a b : Bool) → a ≡ false → b ≡ true → (not a && b) ≡ true
    by a b none apart = rw (none, apart) refl

pub apart_more : (labels : List (List ℕ)) (label : List ℕ) → are_apart labels ≡ true → has_label labels label ≡ false → are_apart (labels ++ label ∷ []) ≡ true
apart_more labels label apart new = few_apart (labels ++ label ∷ []) (λ x. subst (λ (n : ℕ). n ≤ 1) (sym (times_both x labels (label ∷ []))) (by x (same_label x label) refl))
  where
    once : (n : ℕ) → n ≡ 0 → n + (0 + 1) ≤ 1
    once n none = grind (arith, none)

    before : (n : ℕ) → n ≤ 1 → n + 0 ≤ 1
    before n le = grind (arith, le)

    by : (x : List ℕ) (b : Bool) → same_label x label ≡ b → times x labels + more b 0 ≤ 1
    by x true same = once (times x labels) (none_so x labels (subst (λ (l : List ℕ). has_label labels l ≡ false) (same_bytes-true label x (sym (same_so x label) ∙ same)) new))
    by x false other = before (times x labels) (apart_few labels apart x)

-- ---- over the clients whose numbers are below one

abbrev labels_of : ℕ → List ScriptLine → List (List ℕ)
labels_of n lines = all_below n (λ k. labels_begun (commands_of (record { 0 = k }) lines))

module _ (x : List ℕ) where
  no_lines : (n : ℕ) → times x (labels_of n []) ≡ 0
  no_lines zero = refl
  no_lines (suc n) = times_both x (labels_of n []) [] ∙ by (times x (labels_of n [])) (no_lines n)
    where
      by : (a : ℕ) → a ≡ 0 → a + 0 ≡ 0
      by a is = grind (arith, is)

  module _ (line : ScriptLine) (lines : List ScriptLine) where
    abbrev with_it : Bool → ℕ → ℕ
    with_it b k = times x (labels_begun ((if b then line ∷ [] else []) ++ commands_of (record { 0 = k }) lines))

    abbrev without : ℕ → ℕ
    without k = times x (labels_begun (commands_of (record { 0 = k }) lines))

    its : (k : ℕ) (b : Bool) → with_it b k ≤ times x (label_begun line) + without k
    its k true = subst (λ (n : ℕ). n ≤ times x (label_begun line) + without k) (sym (times_both x (label_begun line) (labels_begun (commands_of (record { 0 = k }) lines)))) (grind (arith))
    its k false = grind (arith)

    not_its : (k : ℕ) (b : Bool) → b ≡ false → with_it b k ≡ without k
    not_its k true off = absurd (cc off)
    not_its k false off = refl

    above : (n : ℕ) → n ≤ line.client.0 → times x (labels_of n (line ∷ lines)) ≡ times x (labels_of n lines)
    above zero low = refl
    above (suc n) low = times_both x (labels_of n (line ∷ lines)) (labels_begun (commands_of (record { 0 = n }) (line ∷ lines)))
        ∙ by (above n (lower n line.client.0 low)) (not_its n (line.client.0 == n) (other n line.client.0 low))
        ∙ sym (times_both x (labels_of n lines) (labels_begun (commands_of (record { 0 = n }) lines)))
      where
        lower : (a b : ℕ) → suc a ≤ b → a ≤ b
        lower a b le = grind (arith, le)

        other : (a b : ℕ) → suc a ≤ b → (b == a) ≡ false
        other a b le = grind (arith, nat_tests, le)

        by : times x (labels_of n (line ∷ lines)) ≡ times x (labels_of n lines) → with_it (line.client.0 == n) n ≡ without n
            → times x (labels_of n (line ∷ lines)) + with_it (line.client.0 == n) n ≡ times x (labels_of n lines) + without n
        by one two = λ i. one i + two i

    one_line : (n : ℕ) → times x (labels_of n (line ∷ lines)) ≤ times x (label_begun line) + times x (labels_of n lines)
    one_line zero = grind (arith)
    one_line (suc n) = subst (λ (m : ℕ). m ≤ times x (label_begun line) + times x (labels_of (suc n) lines)) (sym (times_both x (labels_of n (line ∷ lines)) (labels_begun (commands_of (record { 0 = n }) (line ∷ lines)))))
        (subst (λ (m : ℕ). times x (labels_of n (line ∷ lines)) + with_it (line.client.0 == n) n ≤ times x (label_begun line) + m) (sym (times_both x (labels_of n lines) (labels_begun (commands_of (record { 0 = n }) lines))))
        (by (line.client.0 == n) refl (one_line n)))
      where
        high : (a b : ℕ) → (a == b) ≡ true → b ≤ a
        high a b same = grind (arith, nat_tests, same)

        here : (a b c p q : ℕ) → a ≡ b → c ≤ p + q → a + c ≤ p + (b + q)
        here a b c p q same le = grind (arith, same, le)

        before : (a b c p q : ℕ) → a ≤ p + b → c ≡ q → a + c ≤ p + (b + q)
        before a b c p q le same = grind (arith, le, same)

        by : (b : Bool) → (line.client.0 == n) ≡ b → times x (labels_of n (line ∷ lines)) ≤ times x (label_begun line) + times x (labels_of n lines)
            → times x (labels_of n (line ∷ lines)) + with_it b n ≤ times x (label_begun line) + (times x (labels_of n lines) + without n)
        by true same rest = here (times x (labels_of n (line ∷ lines))) (times x (labels_of n lines)) (with_it true n) (times x (label_begun line)) (without n) (above n (high line.client.0 n same)) (its n true)
        by false other rest = before (times x (labels_of n (line ∷ lines))) (times x (labels_of n lines)) (with_it false n) (times x (label_begun line)) (without n) rest refl

  all_lines : (n : ℕ) (lines : List ScriptLine) → times x (labels_of n lines) ≤ times x (labels_begun lines)
  all_lines n [] = subst (λ (m : ℕ). m ≤ 0) (sym (no_lines n)) (grind (arith))
  all_lines n (line ∷ lines) = subst (λ (m : ℕ). times x (labels_of n (line ∷ lines)) ≤ m) (sym (times_both x (label_begun line) (labels_begun lines)))
      (by (times x (labels_of n (line ∷ lines))) (times x (labels_of n lines)) (times x (labels_begun lines)) (times x (label_begun line)) (one_line line lines n) (all_lines n lines))
    where
      by : (a b c p : ℕ) → a ≤ p + b → b ≤ c → a ≤ p + c
      by a b c p one rest = grind (arith, one, rest)

pub apart_clients : (n : ℕ) (lines : List ScriptLine) → are_apart (labels_begun lines) ≡ true → are_apart (labels_of n lines) ≡ true
apart_clients n lines apart = few_apart (labels_of n lines) (λ x. by (times x (labels_of n lines)) (times x (labels_begun lines)) (all_lines x n lines) (apart_few (labels_begun lines) apart x))
  where
    by : (a b : ℕ) → a ≤ b → b ≤ 1 → a ≤ 1
    by a b le few = grind (arith, le, few)
