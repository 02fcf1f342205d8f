-- All servers of a node that are to learn an outcome learn it, in order of their classes.
use Rattle.qs_world_lawful.proofs.Words.{◌≡◌, ℕ, Bool, true, false, List, [], ◌∷◌, ◌++◌, Option, Some, None, refl, sym, ap, subst, ◌∙◌, fold, ◌||◌, if◌then◌else◌, filter, Outcome, Tid, class_of, BookValue, member_of, learners, is_due_at, servers_due, Participant, learn_member, learn_members, learners_at, Work, eqb-false}
use Rattle.qs_tm.specs.Members as rules
use Rattle.qs_tm.specs.Members.{all_servers}
use Rattle.qs_tm.specs.declared.participant.Due.TheVariants as dues
use Rattle.qs_world_lawful.proofs.LearningAll.{Midst, Next, left, learn_if, next, no}

-- ---- folds

fold_append : {A B : Type 0} (f : B → A → B) (w : B) (xs ys : List A) → fold f w (xs ++ ys) ≡ fold f (fold f w xs) ys
fold_append f w [] ys = refl
fold_append f w (x ∷ xs) ys = fold_append f (f w x) xs ys

pub fold_filter : {A B : Type 0} (f : B → A → B) (p : A → Bool) (w : B) (xs : List A) → fold f w (filter p xs) ≡ fold (λ (v : B) (x : A). if p x then f v x else v) w xs
fold_filter f p w [] = refl
fold_filter {A} {B} f p w (x ∷ xs) = by (p x) (λ v. fold_filter f p v xs)
  where
    by : (b : Bool) → ((v : B) → fold f v (filter p xs) ≡ fold (λ (v : B) (y : A). if p y then f v y else v) v xs)
        → fold f w (if b then x ∷ filter p xs else filter p xs) ≡ fold (λ (v : B) (y : A). if p y then f v y else v) (if b then f w x else w) xs
    by true more = more (f w x)
    by false more = more w

-- ---- which servers a fold over those to learn goes to

module _ (tid : Tid) (outcome : Outcome) (part : Participant) where
  abbrev due : ℕ → Bool
  due n = rules.is_to_learn (class_of n) (member_of part (no n))

  abbrev pub after_first : Work → Work
  after_first work = learn_if (due 6) tid outcome (no 6) (learn_if (due 2) tid outcome (no 2) (learn_if (due 1) tid outcome (no 1) (learn_if (due 0) tid outcome (no 0) work)))

  abbrev pub after_all : Work → Work
  after_all work = learn_if (due 5) tid outcome (no 5) (learn_if (due 4) tid outcome (no 4) (after_first work))

  first_is : (work : Work) → fold (learn_member tid outcome) work (servers_due dues.FirstTold part) ≡ after_first work
  unfolding all_servers
  first_is work = fold_filter (learn_member tid outcome) (is_due_at dues.FirstTold part) work all_servers

  then_is : (work : Work) → fold (learn_member tid outcome) work (servers_due dues.ThenTold part) ≡ learn_if (due 4) tid outcome (no 4) work
  unfolding all_servers
  then_is work = fold_filter (learn_member tid outcome) (is_due_at dues.ThenTold part) work all_servers

  last_is : (work : Work) → fold (learn_member tid outcome) work (servers_due dues.LastTold part) ≡ learn_if (due 5) tid outcome (no 5) work
  unfolding all_servers
  last_is work = fold_filter (learn_member tid outcome) (is_due_at dues.LastTold part) work all_servers

  pub chain_is : (work : Work) → fold (learn_member tid outcome) work (learners part) ≡ after_all work
  chain_is work =
      fold_append (learn_member tid outcome) work (servers_due dues.FirstTold part ++ servers_due dues.ThenTold part) (servers_due dues.LastTold part)
      ∙ (last_is (fold (learn_member tid outcome) work (servers_due dues.FirstTold part ++ servers_due dues.ThenTold part))
      ∙ ap (learn_if (due 5) tid outcome (no 5))
      (fold_append (learn_member tid outcome) work (servers_due dues.FirstTold part) (servers_due dues.ThenTold part)
      ∙ (then_is (fold (learn_member tid outcome) work (servers_due dues.FirstTold part)) ∙ ap (learn_if (due 4) tid outcome (no 4)) (first_is work))))

-- ---- all of them

module _ (stamp : ℕ) (before : BookValue) (tid : Tid) (outcome : Outcome) (work : Work) (m : Midst stamp before tid outcome work) where
  none_of : (a b c d : Bool) → a ≡ false → b ≡ false → c ≡ false → d ≡ false → (a || (b || (c || (d || false)))) ≡ false
  none_of a b c d p q r s = rw (p, q, r, s) refl

  none_of_five : (a b c d e : Bool) → a ≡ false → b ≡ false → c ≡ false → d ≡ false → e ≡ false → (a || (b || (c || (d || (e || false))))) ≡ false
  none_of_five a b c d e p q r s t = rw (p, q, r, s, t) refl

  abbrev due_at : ℕ → Bool
  due_at n = left stamp before tid outcome m (no n)

  abbrev w1 : Work
  w1 = learn_if (due_at 0) tid outcome (no 0) work

  n1 : Next stamp before tid outcome work m (no 0) w1
  n1 = next stamp before tid outcome work m (no 0) refl refl refl (due_at 0) refl

  abbrev w2 : Work
  w2 = learn_if (due_at 1) tid outcome (no 1) w1

  n2 : Next stamp before tid outcome w1 n1.after (no 1) w2
  n2 = next stamp before tid outcome w1 n1.after (no 1) refl refl refl (due_at 1) (n1.others (no 1) (eqb-false 0 1 refl))

  abbrev w3 : Work
  w3 = learn_if (due_at 2) tid outcome (no 2) w2

  n3 : Next stamp before tid outcome w2 n2.after (no 2) w3
  n3 = next stamp before tid outcome w2 n2.after (no 2) refl refl refl (due_at 2) (n2.others (no 2) (eqb-false 1 2 refl) ∙ n1.others (no 2) (eqb-false 0 2 refl))

  abbrev w4 : Work
  w4 = learn_if (due_at 6) tid outcome (no 6) w3

  n4 : Next stamp before tid outcome w3 n3.after (no 6) w4
  n4 = next stamp before tid outcome w3 n3.after (no 6) refl refl refl (due_at 6) (n3.others (no 6) (eqb-false 2 6 refl) ∙ (n2.others (no 6) (eqb-false 1 6 refl) ∙ n1.others (no 6) (eqb-false 0 6 refl)))

  -- the two-phase servers have learnt it
  done_0 : left stamp before tid outcome n4.after (no 0) ≡ false
  done_0 = n4.others (no 0) (eqb-false 6 0 refl) ∙ (n3.others (no 0) (eqb-false 2 0 refl) ∙ (n2.others (no 0) (eqb-false 1 0 refl) ∙ n1.done))

  done_1 : left stamp before tid outcome n4.after (no 1) ≡ false
  done_1 = n4.others (no 1) (eqb-false 6 1 refl) ∙ (n3.others (no 1) (eqb-false 2 1 refl) ∙ n2.done)

  done_2 : left stamp before tid outcome n4.after (no 2) ≡ false
  done_2 = n4.others (no 2) (eqb-false 6 2 refl) ∙ n3.done

  done_6 : left stamp before tid outcome n4.after (no 6) ≡ false
  done_6 = n4.done

  abbrev w5 : Work
  w5 = learn_if (due_at 4) tid outcome (no 4) w4

  n5 : Next stamp before tid outcome w4 n4.after (no 4) w5
  n5 = next stamp before tid outcome w4 n4.after (no 4) refl refl (none_of _ _ _ _ done_0 done_1 done_2 done_6) (due_at 4)
      (n4.others (no 4) (eqb-false 6 4 refl) ∙ (n3.others (no 4) (eqb-false 2 4 refl) ∙ (n2.others (no 4) (eqb-false 1 4 refl) ∙ n1.others (no 4) (eqb-false 0 4 refl))))

  abbrev w6 : Work
  w6 = learn_if (due_at 5) tid outcome (no 5) w5

  n6 : Next stamp before tid outcome w5 n5.after (no 5) w6
  n6 = next stamp before tid outcome w5 n5.after (no 5) refl refl
      (none_of_five _ _ _ _ _ (n5.others (no 0) (eqb-false 4 0 refl) ∙ done_0) (n5.others (no 1) (eqb-false 4 1 refl) ∙ done_1) (n5.others (no 2) (eqb-false 4 2 refl) ∙ done_2) (n5.others (no 6) (eqb-false 4 6 refl) ∙ done_6) n5.done) (due_at 5)
      (n5.others (no 5) (eqb-false 4 5 refl) ∙ (n4.others (no 5) (eqb-false 6 5 refl) ∙ (n3.others (no 5) (eqb-false 2 5 refl) ∙ (n2.others (no 5) (eqb-false 1 5 refl) ∙ n1.others (no 5) (eqb-false 0 5 refl)))))

  learners_is : learners_at tid work ≡ learners m.part
  learners_is = ap (λ (o : Option Participant). elim o [ None ↦ [] | Some p ↦ learners p ]) m.known

  pub all_learnt : Midst stamp before tid outcome (learn_members tid outcome work)
  all_learnt = subst (Midst stamp before tid outcome) (sym (ap (fold (learn_member tid outcome) work) learners_is ∙ chain_is tid outcome m.part work)) n6.after
