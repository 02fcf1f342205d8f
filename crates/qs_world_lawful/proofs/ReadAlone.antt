-- What only read of a transaction is held of a node that knows nothing of it: so it may be forgotten.
use Rattle.qs_world_lawful.proofs.Words.{◌≡◌, ◌≢◌, ℕ, ◌==◌, Bool, true, false, Option, Some, None, refl, sym, ap, subst, ◌∙◌, arith, nat_lt, true≢false, nat_tests, not, ◌&&◌, ◌||◌, is_none, if◌then◌else◌, Class, NodeNo, Outcome, ServerNo, Tid, BookValue, TransactionValue, class_of, is_two_phase, forget_rule, Work, forget, is_no_node, is_forgotten, is_undecided, member_of, only_read, MemberPart, Participant, HoldsWork, book_at, at_server, face_of, HoldsMember, HoldsTid, eqb-true, and_last}
use Rattle.qs_base.specs.declared.identifiers.Class.TheVariants as classes
use Rattle.qs_tm.specs.Manager as tm
use Rattle.qs_tm.specs.Members as rules
use Rattle.qs_tm.specs.Members.{all_servers}
use Rattle.qs_tm.specs.declared.members.Cast.{Cast}
use Rattle.qs_world_lawful.specs.Face.{Face}
use Rattle.qs_world_lawful.specs.Given.{HasOnlyRead, MayForget}
use Rattle.qs_world_lawful.specs.Holds.{is_kept}
use Rattle.qs_world_lawful.proofs.Begins.{new_member, new_peer}
use Rattle.qs_world_lawful.proofs.Clauses.{of_tid}
use Rattle.qs_world_lawful.proofs.Forgetting.{by_unheard}
use Rattle.qs_world_lawful.proofs.LearningAll.{stands}

read_covers : (server : ServerNo) (m : MemberPart) → is_two_phase (class_of server.0) ≡ true → rules.has_read server m ≡ true → rules.is_covering m ≡ true
read_covers server m two read = by (rules.votes_here server) two read
  where
    voted : (o : Option Cast) → (((m.served == 0) && is_none o) || (elim o [ None ↦ false | Some cast ↦ rules.is_read_only cast.ballot && (cast.covers == m.served) ])) ≡ true
        → (elim o [ None ↦ m.served == 0 | Some cast ↦ cast.covers == m.served ]) ≡ true
    voted None e = of (m.served == 0) e
      where
        of : (b : Bool) → ((b && true) || false) ≡ true → b ≡ true
        of true e = refl
        of false e = absurd (cc e)
    voted (Some cast) e = of (m.served == 0) (rules.is_read_only cast.ballot) (cast.covers == m.served) e
      where
        of : (a b c : Bool) → ((a && false) || (b && c)) ≡ true → c ≡ true
        of true b c e = and_last b c e
        of false b c e = and_last b c e

    by : (b : Bool) → b ≡ true → (not b || (((m.served == 0) && is_none m.vote) || rules.is_let_go m)) ≡ true → rules.is_covering m ≡ true
    by true e is = voted m.vote is
    by false e is = absurd (cc e)

nothing_to_learn : (c : Class) → rules.is_to_learn c rules.no_member ≡ false
nothing_to_learn classes.Recoverable = refl
nothing_to_learn classes.Volatile = refl
nothing_to_learn classes.Immediate = refl
nothing_to_learn classes.Standard = refl
nothing_to_learn classes.Delayed = refl
nothing_to_learn classes.Activity = refl

last_server : (n : ℕ) → nat_lt n 7 ≡ true → (n == 0) ≡ false → (n == 1) ≡ false → (n == 2) ≡ false → (n == 3) ≡ false → (n == 4) ≡ false → (n == 5) ≡ false → (n == 6) ≡ true
last_server n k p q r s t u = grind (arith, nat_tests, k, p, q, r, s, t, u)

abbrev reads : Participant → ℕ → Bool
reads part n = rules.has_read (record { 0 = n }) (member_of part (record { 0 = n }))

-- each server of a node
pub all_read : (part : Participant) → only_read part ≡ true → (server : ServerNo) → is_kept server ≡ true → is_two_phase (class_of server.0) ≡ true → rules.has_read server (member_of part server) ≡ true
unfolding all_servers
all_read part read server kept two = by (server.0 == 0) (server.0 == 1) (server.0 == 2) (server.0 == 3) (server.0 == 4) (server.0 == 5) refl refl refl refl refl refl
  where
    at : (n : ℕ) → rules.has_read (record { 0 = n }) (member_of part (record { 0 = n })) ≡ true → (server.0 == n) ≡ true → rules.has_read server (member_of part server) ≡ true
    at n is e = subst (λ (k : ℕ). rules.has_read (record { 0 = k }) (member_of part (record { 0 = k })) ≡ true) (sym (eqb-true server.0 n e)) is

    each : (a b c d e f g : Bool) → (a && (b && (c && (d && (e && (f && (g && true))))))) ≡ true → (a ≡ true) × (b ≡ true) × (c ≡ true) × (d ≡ true) × (e ≡ true) × (f ≡ true) × (g ≡ true)
    each true true true true true true true e = (refl, refl, refl, refl, refl, refl, refl)
    each false b c d e f g is = absurd (cc is)
    each true false c d e f g is = absurd (cc is)
    each true true false d e f g is = absurd (cc is)
    each true true true false e f g is = absurd (cc is)
    each true true true true false f g is = absurd (cc is)
    each true true true true true false g is = absurd (cc is)
    each true true true true true true false is = absurd (cc is)

    its : (reads part 0 ≡ true) × (reads part 1 ≡ true) × (reads part 2 ≡ true) × (reads part 3 ≡ true) × (reads part 4 ≡ true) × (reads part 5 ≡ true) × (reads part 6 ≡ true)
    its = each _ _ _ _ _ _ _ read

    by : (a b c d e f : Bool) → (server.0 == 0) ≡ a → (server.0 == 1) ≡ b → (server.0 == 2) ≡ c → (server.0 == 3) ≡ d → (server.0 == 4) ≡ e → (server.0 == 5) ≡ f → rules.has_read server (member_of part server) ≡ true
    by true b c d e f p q r s t u = at 0 its.0 p
    by false true c d e f p q r s t u = at 1 its.1 q
    by false false true d e f p q r s t u = at 2 its.2 r
    by false false false true e f p q r s t u = at 3 its.3 s
    by false false false false true f p q r s t u = at 4 its.4 t
    by false false false false false true p q r s t u = at 5 its.5 u
    by false false false false false false p q r s t u = at 6 its.6 (last_server server.0 kept p q r s t u)

-- ---- the transaction

module _ (here : NodeNo) (inc : ℕ) (tid : Tid) (tx : TransactionValue) (face : Face) (part : Participant) (h : HoldsTid here inc tid tx (record face { known = Some part })) (read : only_read part ≡ true) (unknown : part.outcome ≡ None)
    (only : HasOnlyRead here inc tid tx) (away : tid.home ≢ here) where
  unheard_member : (server : ServerNo) → is_kept server ≡ true → HoldsMember tx (at_server here server) inc rules.no_member
  unheard_member server kept = record {
    covers = only.covers server kept;
    voted = (h.members refl server kept).voted;
    votes = λ two. record { covers = tt; is_due = ((h.members refl server kept).votes two).is_due ∙ ap not (read_covers server (member_of part server) two (all_read part read server kept two)) };
    learns = λ told. only.learns server kept ∙ sym (nothing_to_learn (class_of server.0));
    ends = λ immediate. only.ends server kept immediate;
  }

  pub unheard_tid : HoldsTid here inc tid tx (record face { known = None })
  unheard_tid = record {
    sized = refl;
    members = λ held server kept. subst (λ (m : MemberPart). HoldsMember tx (at_server here server) inc m) (sym (new_member false server)) (unheard_member server kept);
    asked = λ is. absurd (cc is);
    outcome = λ o is. absurd (cc is);
    silent = λ is. absurd (nothing (sym unknown ∙ h.silent is));
    local = h.local;
    sent = λ held peer far. only.sent peer far ∙ sym (ap (λ p. p.sent) (new_peer false peer));
    pending = h.pending;
    noted = λ held count some is. absurd (true≢false (sym is ∙ only.noted count some));
    queued = h.queued;
    made = h.made;
    yielded = h.yielded;
    home = λ at in_inc. absurd (away at);
  }
    where
      nothing : {o : Outcome} → None ≡ Some o → ⊥
      nothing e = cc e

-- ---- the rule

pub by_forget_rule : (stamp : ℕ) (before : BookValue) (tid : Tid) (work : Work) → HoldsWork stamp before work → (part : Participant) → tm.part_of tid work.node.manager ≡ Some part → part.outcome ≡ None
    → (is_forgotten part ≡ true → MayForget stamp before work tid) → HoldsWork stamp before (forget_rule tid part work)
by_forget_rule stamp before tid work h part known unknown given = by (is_forgotten part) refl
  where
    last : (a b c d t e : Bool) → ((a && b) && ((c && d) && (t && e))) ≡ true → e ≡ true
    last true true true true true e is = is
    last true true true true false e is = absurd (cc is)
    last true true true false t e is = absurd (cc is)
    last true true false d t e is = absurd (cc is)
    last true false c d t e is = absurd (cc is)
    last false b c d t e is = absurd (cc is)

    by : (b : Bool) → is_forgotten part ≡ b → HoldsWork stamp before (if b then forget tid work else work)
    by false is = h
    by true is =
        let tx = stands stamp (book_at stamp before work) work.node tid part h.holds known in
        let may = given is in
        by_unheard stamp before work h tid may.once tx.0 tx.1
        (unheard_tid work.node.setting.node work.node.setting.inc tid tx.0 (face_of work.node tid) part
        (subst (λ (o : Option Participant). HoldsTid work.node.setting.node work.node.setting.inc tid tx.0 (record (face_of work.node tid) { known = o })) known (of_tid stamp (book_at stamp before work) work.node h.holds tid tx.0 tx.1))
        (last (is_undecided part) (not part.engage.home) (is_none part.engage.superior) (not part.involved) (is_no_node part.told) (only_read part) is) unknown (may.read tx.0 tx.1) may.away)
