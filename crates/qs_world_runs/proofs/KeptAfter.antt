-- What a node keeps for its clients after a whole step is as the machine has it, where it keeps each label of its own transactions as their owner's.
use Rattle.qs_world_runs.proofs.Words.{◌≡◌, ℕ, ◌≤◌, ◌&&◌, ◌||◌, not, Bool, true, false, List, [], ◌∷◌, Option, Some, None, refl, sym, ap, subst, arith, is_some, nat_le, nat_tests, filter, list_all, list_any, same_tid, same_tid-self, same_tid-true, ClientNo, Tid, KeptLabel, Lent, BookValue, find_transaction, TransactionValue, kept_outcome, Setting, is_undecided, Participant, Stage, IsTidyNode, HoldsBeside, face_of, is_loan_in, HoldsAt, HoldsTid, Every, HasNodeFacts, every_on, AreOwned}
use Rattle.qs_node_kept.specs.Keeping.{is_label_of}
use Rattle.qs_node_step.specs.State.{NodeValue}
use Rattle.qs_tm.specs.Manager as tm
use Rattle.qs_world_refine.specs.Sound.{is_owned, is_owned_label}
use Rattle.qs_world_refine.specs.Tidy.{is_tidy_loan}
use Rattle.qs_world_refine.proofs.SoundParts.{and_both}
use Rattle.qs_world_lawful.specs.Holds.{Holds}
use Rattle.qs_world_lawful.specs.Worlds.{HoldsKept, IsLeftOpen, IsLoanOf, IsOpenStill}
use Rattle.qs_world_runs.specs.Labels.{is_owned_as}
use Rattle.qs_base_lemmas.proofs.Tests.{none_is}

-- ---- all of a list, from those in it

module _ {A : Type 0} (P : A → Type 0) where
  -- what no test misses of the whole list is in it
  abbrev pub IsIn : List A → A → Type 0
  IsIn whole x = (test : A → Bool) → test x ≡ true → filter test whole ≡ [] → ⊥

  every_from : (each : A → Bool) (whole xs : List A) → ((test : A → Bool) → filter test whole ≡ [] → filter test xs ≡ []) → list_all each xs ≡ true → ((x : A) → IsIn whole x → each x ≡ true → P x) → Every P xs
  every_from each whole [] part all gives = tt
  every_from each whole (x ∷ xs) part all gives = (gives x (λ test is none. first test is (part test none)) (and_both (each x) (list_all each xs) all).0, every_from each whole xs (λ test none. rest test (test x) refl (part test none)) (and_both (each x) (list_all each xs) all).1 gives)
    where
      first : (test : A → Bool) → test x ≡ true → filter test (x ∷ xs) ≡ [] → ⊥
      first test is none = by (rw is at none)
        where
          by : x ∷ filter test xs ≡ [] → ⊥
          by e = cc e

      rest : (test : A → Bool) (b : Bool) → test x ≡ b → filter test (x ∷ xs) ≡ [] → filter test xs ≡ []
      rest test true is none = absurd (first test is none)
      rest test false is none = rw is at none

  pub every_in : (each : A → Bool) (whole : List A) → list_all each whole ≡ true → ((x : A) → IsIn whole x → each x ≡ true → P x) → Every P whole
  every_in each whole all gives = every_from each whole whole (λ test none. none) all gives

-- one of a list that passes
pub record AnyOf {A : Type 0} (test : A → Bool) (xs : List A) (each : A → Bool) : Type 0 where
  pub one : A
  pub passes : test one ≡ true
  pub holds : each one ≡ true

any_of : {A : Type 0} (test each : A → Bool) (xs : List A) → list_any test xs ≡ true → list_all each xs ≡ true → AnyOf test xs each
any_of test each [] is all = absurd (cc is)
any_of test each (x ∷ xs) is all = by (test x) refl is (λ rest. any_of test each xs rest (and_both (each x) (list_all each xs) all).1)
  where
    by : (b : Bool) → test x ≡ b → (b || list_any test xs) ≡ true → (list_any test xs ≡ true → AnyOf test xs each) → AnyOf test (x ∷ xs) each
    by true its any_is more = record { one = x; passes = its; holds = (and_both (each x) (list_all each xs) all).0 }
    by false off rest more = let m = more rest in record { one = m.one; passes = m.passes; holds = m.holds }

module _ (stamp : ℕ) (book : BookValue) (c : Stage) (node : NodeValue) (h : Holds stamp book node) (beside : HoldsBeside book node) (facts : HasNodeFacts node) (tidy : IsTidyNode c node)
    (named : Every (AreOwned node.setting.node node.kept.now.labels) node.kept.now.labels) where
  -- each loan is of what stands
  stands : (loan : Lent) → IsIn (IsLoanOf book node.setting.inc) node.kept.now.loans loan → is_some (find_transaction book loan.tid) ≡ true
  stands loan there = by (find_transaction book loan.tid) refl
    where
      by : (o : Option TransactionValue) → find_transaction book loan.tid ≡ o → is_some o ≡ true
      by (Some tx) is = refl
      by None none = absurd (there (is_loan_in loan.tid) (same_tid-self loan.tid) (subst (λ (o : Option TransactionValue). HoldsAt node.setting.node node.setting.inc loan.tid o (face_of node loan.tid)) none (h.at loan.tid)).loans)

  made : (loan : Lent) → is_tidy_loan c loan ≡ true → loan.inc ≤ node.setting.inc
  made loan is = subst (λ (s : Setting). loan.inc ≤ s.inc) (sym tidy.setting) (low (and_both (c.begun loan.tid) (nat_le loan.inc c.setting.inc) is).1)
    where
      low : nat_le loan.inc c.setting.inc ≡ true → loan.inc ≤ c.setting.inc
      low it = grind (arith, nat_tests, it)

  undecided : (begun : KeptLabel) → AreOwned node.setting.node node.kept.now.labels begun → IsLeftOpen node.setting.node book node.kept.now.outcomes begun
  undecided begun owned tid is home none = by (tm.part_of tid node.manager) refl runs
    where
      found : AnyOf (is_owned_as tid) node.kept.now.labels (is_owned_label node)
      found = any_of (is_owned_as tid) (is_owned_label node) node.kept.now.labels (owned tid is home) tidy.crossed.owned

      runs : tm.told_of tid false (λ part. part.engage.home && is_undecided part) node.manager ≡ true
      runs = undecided_still (is_some (kept_outcome tid node)) (ap is_some none) (owned_of found.one.owner found.one.tid (and_both (is_some found.one.owner) (is_label_of tid found.one) found.passes).0 (and_both (is_some found.one.owner) (is_label_of tid found.one) found.passes).1 found.holds)
        where
          owned_of : (owner : Option ClientNo) (o : Option Tid) → is_some owner ≡ true → (elim o [ None ↦ false | Some other ↦ same_tid tid other ]) ≡ true → (not (is_some owner) || elim o [ None ↦ true | Some t ↦ is_owned node t ]) ≡ true → is_owned node tid ≡ true
          owned_of None o some same all = absurd (cc some)
          owned_of (Some client) None some same all = absurd (cc same)
          owned_of (Some client) (Some other) some same all = subst (λ (t : Tid). is_owned node t ≡ true) (sym (same_tid-true tid other same)) all

          undecided_still : (b : Bool) → b ≡ false → (b || tm.told_of tid false (λ part. part.engage.home && is_undecided part) node.manager) ≡ true → tm.told_of tid false (λ part. part.engage.home && is_undecided part) node.manager ≡ true
          undecided_still true e so = absurd (cc e)
          undecided_still false e so = so

      by : (o : Option Participant) → tm.part_of tid node.manager ≡ o → (elim o [ None ↦ false | Some part ↦ part.engage.home && is_undecided part ]) ≡ true → IsOpenStill book tid
      by None unknown r = absurd (cc r)
      by (Some part) known r = of (find_transaction book tid) refl ((beside.at tid).stands part known)
        where
          unknown : part.outcome ≡ None
          unknown = none_is part.outcome (and_both part.engage.home (is_undecided part) r).1

          of : (o : Option TransactionValue) → find_transaction book tid ≡ o → is_some o ≡ true → IsOpenStill book tid
          of None absent so = absurd (cc so)
          of (Some tx) there so =
              let held : HoldsTid node.setting.node node.setting.inc tid tx (face_of node tid) = subst (λ (o : Option TransactionValue). HoldsAt node.setting.node node.setting.inc tid o (face_of node tid)) there (h.at tid) in
              record {
                tx = tx;
                found = there;
                undecided = (held.home home ((facts.parts tid part known).began (and_both part.engage.home (is_undecided part) r).0 unknown)).undecided part known unknown;
                owned = beside.owners tid tx there;
              }

  pub kept_so : HoldsKept node.setting.node node.setting.inc book node.kept.now
  kept_so = record {
    owners = λ label begun tid client labelled is owned. h.clients.labels label begun tid client labelled is owned;
    outcomes = λ tid decided is. h.clients.outcomes tid decided is;
    undecided = every_on (AreOwned node.setting.node node.kept.now.labels) (IsLeftOpen node.setting.node book node.kept.now.outcomes) undecided node.kept.now.labels named;
    loans = every_in (IsLoanOf book node.setting.inc) (is_tidy_loan c) node.kept.now.loans tidy.loans (λ loan there its. record { stands = stands loan there; made = made loan its });
  }
