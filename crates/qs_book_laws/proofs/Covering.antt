-- While a member does not vote again, its record is all that it has pending, unless it served something since.
use Rattle.qs_book_laws.proofs.Words.{◌≡◌, ℕ, ◌+◌, ◌≤◌, Bool, true, false, List, [], ◌++◌, Some, None, refl, sym, ap, subst, ◌∙◌, arith, append-nil, Member, Tid, Op, Act, Entry, BookValue, broken, effect, changes_of, change_served, held_at, lets_go, votes_on, le_one_more}
use Rattle.qs_book_journal.specs.declared.entry.Act.TheVariants as acts
use Rattle.qs_book_laws.proofs.Counts.{Count, count_of}
use Rattle.qs_book_laws.proofs.Covers.{Mark, mark_of}
use Rattle.qs_book_laws.proofs.Leaves.{Leaves, serves_on, step_leaves}
use Rattle.qs_book_laws.proofs.Outcomes.{Inv}
use Rattle.qs_book_laws.proofs.Serves.{Serves, step_serves}
use Rattle.qs_book_laws.proofs.Shares.{number}

-- what is not served gives no change
pub nothing_served : (book : BookValue) (tid : Tid) (member : Member) (act : Act) → serves_on tid member act ≡ false → change_served book tid member act ≡ []
nothing_served book tid member (acts.Serve t other from n_th reply) apart = rw apart refl
nothing_served book tid member act apart = refl

module _ (tid : Tid) (member : Member) where
  pub record Covers (book : BookValue) : Type 0 where
    pub mark : Mark
    pub at : mark_of book tid member ≡ Some mark
    pub most : (count_of book tid member mark.inc).covered ≤ (count_of book tid member mark.inc).served
    pub all : (count_of book tid member mark.inc).covered ≡ (count_of book tid member mark.inc).served → held_at book tid member ≡ changes_of mark.rec

  quiet_covers : (old new : BookValue) → Leaves tid member old new → held_at new tid member ≡ held_at old tid member → Covers old → Covers new
  quiet_covers old new leaves holds c = record {
    mark = c.mark;
    at = leaves.mark ∙ c.at;
    most = subst (λ (k : Count). k.covered ≤ k.served) (sym (leaves.count c.mark.inc)) c.most;
    all = λ e. holds ∙ c.all (subst (λ (k : Count). k.covered ≡ k.served) (leaves.count c.mark.inc) e);
  }

  serving_covers : (old new : BookValue) → Serves tid member old new → Covers old → Covers new
  serving_covers old new serves c =
      let after = serves.here c.mark c.at in
      record {
        mark = c.mark;
        at = serves.mark ∙ c.at;
        most = subst (λ (k : Count). k.covered ≤ k.served) (sym after) (le_one_more (count_of old tid member c.mark.inc).covered (count_of old tid member c.mark.inc).served c.most);
        all = λ h. absurd (beyond (count_of old tid member c.mark.inc).covered (count_of old tid member c.mark.inc).served c.most (subst (λ (k : Count). k.covered ≡ k.served) after h));
      }
    where
      beyond : (m n : ℕ) → m ≤ n → m ≡ n + 1 → ⊥
      beyond m n h k = omega arith

  pub step_covers : (b : Bool) → member.server.0 ≡ number b → (book : BookValue) (entry : Entry) → Inv book → broken book entry ≡ None → lets_go tid member entry.node.0 entry.act ≡ false → votes_on tid member entry.act ≡ false
      → held_at (effect book entry) tid member ≡ held_at book tid member ++ change_served book tid member entry.act → Covers book → Covers (effect book entry)
  step_covers b is book entry i h keeps quiet holds c = by (serves_on tid member entry.act) refl
    where
      by : (x : Bool) → serves_on tid member entry.act ≡ x → Covers (effect book entry)
      by true serves = serving_covers book (effect book entry) (step_serves tid member b is book entry h serves) c
      by false idle =
          quiet_covers book (effect book entry) (step_leaves tid member book entry i h keeps quiet idle)
          (holds ∙ (ap (λ (ops : List Op). held_at book tid member ++ ops) (nothing_served book tid member entry.act idle) ∙ append-nil (held_at book tid member))) c
