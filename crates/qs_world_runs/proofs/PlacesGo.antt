-- From a rule to the next: each adds entries, keeps what is said of its node, and lets what all places hold go on, or the transaction is doomed.
use Rattle.qs_world_runs.proofs.Words.{◌≡◌, ◌⊎◌, inl, inr, ℕ, ◌+◌, ◌==◌, ◌||◌, Bool, true, false, List, [], ◌∷◌, ◌++◌, fold, Option, Some, None, refl, sym, ap, ◌∙◌, append_assoc, append-nil, arith, if◌then◌else◌, nat_tests, list_any, same_tid, NodeNo, Tid, same_node, Act, restarts, paced, BookValue, inc_at, book_after, effect, Op, where_undecided, issue_as, issue_away, issue_here, Work, here, Setting, is_undecided, Outstanding, Participant, entries_of, entry_of, IsDoomed, AtEach, Field}
use Rattle.qs_world_runs.proofs.Words.{is_loud, loud, LeavesPlaces, PlacedAmid, book_amid, Extends, HoldsOr, IssuesWell, AreLawful, IsAmid, eqb-true, or_parts, and_false}
use Rattle.qs_book_journal.specs.declared.entry.Act.TheVariants as acts
use Rattle.qs_book_machine.specs.Lawful.{IsLawful}
use Rattle.qs_node_step.specs.State.{part_of}
use Rattle.qs_world_runs.specs.PlacesGo.{Goes, IssueGoes, is_restart}
use Rattle.qs_world_runs.proofs.LeftRequests.{issue_as_leaves}
use Rattle.qs_world_runs.proofs.PlacedAmid.{book_is, lawful_then, left_on, rest_of}
use Rattle.qs_world_runs.proofs.PlacedIssue.{issued_away, issued_here}

-- ---- another transaction

abbrev pub beside : Tid → Tid
beside t = record t { seq = t.seq + 1 }

pub is_beside : (t : Tid) → same_tid t (beside t) ≡ false
is_beside t = grind (arith, nat_tests)

-- ---- entries

still_of : (t : Tid) (es : List Act) → loud t es ≡ [] → list_any is_restart es ≡ false
still_of t [] none = refl
still_of t (act ∷ es) none = by act (is_loud t act) refl none (still_of t es)
  where
    quiet : (act : Act) → is_loud t act ≡ false → is_restart act ≡ false
    quiet (acts.Restart inc pend done) so = absurd (cc so)
    quiet (acts.Begin u label client) so = refl
    quiet (acts.Issue u issuer member number op) so = refl
    quiet (acts.Serve u member from number reply) so = refl
    quiet (acts.Vote u member ballot covers) so = refl
    quiet (acts.Ask u) so = refl
    quiet (acts.Counted u peer up_to) so = refl
    quiet (acts.Decide u outcome cause) so = refl
    quiet (acts.Ending u member) so = refl
    quiet (acts.Learn u member outcome) so = refl
    quiet (acts.Answer client line said) so = refl
    quiet (acts.Loan u client) so = refl
    quiet (acts.Yield u client) so = refl
    quiet acts.Tick so = refl
    quiet (acts.Crash cause) so = refl

    by : (act : Act) (b : Bool) → is_loud t act ≡ b → loud t (act ∷ es) ≡ [] → (loud t es ≡ [] → list_any is_restart es ≡ false) → (is_restart act || list_any is_restart es) ≡ false
    by act true is none more = absurd (cc (rw is at none))
    by act false is none more = rw (quiet act is) (more (rw is at none))

pub extends_of : (t : Tid) (work new : Work) → LeavesPlaces t work new → Extends work new
extends_of t work new l = record { more = l.more; entries = l.entries; still = still_of t l.more l.silent; setting = l.setting }

any_both : (p : Act → Bool) (xs ys : List Act) → list_any p xs ≡ false → list_any p ys ≡ false → list_any p (xs ++ ys) ≡ false
any_both p [] ys x y = y
any_both p (a ∷ xs) ys x y = by (p a) refl x (any_both p xs ys)
  where
    by : (b : Bool) → p a ≡ b → (p a || list_any p xs) ≡ false → (list_any p xs ≡ false → list_any p ys ≡ false → list_any p (xs ++ ys) ≡ false) → (p a || list_any p (xs ++ ys)) ≡ false
    by true is x more = absurd (cc (rw is at x))
    by false is x more = rw is (more (rw is at x) y)

pub extends_then : (a b c : Work) → Extends a b → Extends b c → Extends a c
extends_then a b c e f = record {
  more = e.more ++ f.more;
  entries = f.entries ∙ (ap (λ (xs : List Act). xs ++ f.more) e.entries ∙ append_assoc a.out.entries e.more f.more);
  still = any_both is_restart e.more f.more e.still f.still;
  setting = f.setting ∙ e.setting;
}

-- ---- the incarnation of its node

pub inc_stays : (n stamp : ℕ) (es : List Act) (book : BookValue) → list_any is_restart es ≡ false → IsLawful book (entries_of n stamp es) → inc_at (book_after book (entries_of n stamp es)) (record { 0 = n }) ≡ inc_at book (record { 0 = n })
inc_stays n stamp [] book none lawful = refl
inc_stays n stamp (act ∷ es) book none lawful = inc_stays n stamp es (effect book (entry_of n stamp act)) (or_parts (is_restart act) (list_any is_restart es) none).1 lawful.1
    ∙ (paced (record { home = record { 0 = 0 }; inc = 0; seq = 0 }) (record { 0 = n }) book (entry_of n stamp act) lawful.0).still (record { 0 = n }) (quiet act (or_parts (is_restart act) (list_any is_restart es) none).0)
  where
    quiet : (act : Act) → is_restart act ≡ false → restarts (record { 0 = n }) (entry_of n stamp act) ≡ false
    quiet (acts.Restart inc pend done) so = absurd (cc so)
    quiet (acts.Begin u label client) so = and_false (n == n)
    quiet (acts.Issue u issuer member number op) so = and_false (n == n)
    quiet (acts.Serve u member from number reply) so = and_false (n == n)
    quiet (acts.Vote u member ballot covers) so = and_false (n == n)
    quiet (acts.Ask u) so = and_false (n == n)
    quiet (acts.Counted u peer up_to) so = and_false (n == n)
    quiet (acts.Decide u outcome cause) so = and_false (n == n)
    quiet (acts.Ending u member) so = and_false (n == n)
    quiet (acts.Learn u member outcome) so = and_false (n == n)
    quiet (acts.Answer client line said) so = and_false (n == n)
    quiet (acts.Loan u client) so = and_false (n == n)
    quiet (acts.Yield u client) so = and_false (n == n)
    quiet acts.Tick so = and_false (n == n)
    quiet (acts.Crash cause) so = and_false (n == n)

module _ (D : Type 0) (t : Tid) (base : Field) (knows : ℕ → ℕ) (n stamp : ℕ) (before : BookValue) where
  abbrev G : Work → Work → Type 0
  G work new = Goes D t base knows n stamp before work new

  abbrev Lawfully : Work → Type 0
  Lawfully work = AreLawful n stamp before work

  -- what is said of its node
  pub amid_on : (work new : Work) → Extends work new → Lawfully new → IsAmid base n stamp before work → IsAmid base n stamp before new
  amid_on work new e lawful is = record {
    inv = is.inv;
    here = ap (λ (s : Setting). s.node.0) e.setting ∙ is.here;
    in_run = is.in_run;
    up = is.up;
    inc = ap (λ (book : BookValue). inc_at book (record { 0 = n })) (book_is t base knows n stamp before is.inv work new e.more e.entries)
        ∙ (inc_stays n stamp e.more (book_amid n stamp before work) e.still (rest_of t base knows n stamp before is.inv work new e.more e.entries lawful) ∙ is.inc);
  }

  pub goes_itself : (work : Work) → G work work
  goes_itself work = record { extends = record { more = []; entries = sym (append-nil work.out.entries); still = refl; setting = refl }; on = λ lawful is holds. holds }

  pub goes_then : (a b c : Work) → G a b → G b c → G a c
  goes_then a b c g h = record {
    extends = extends_then a b c g.extends h.extends;
    on = λ lawful is holds. let mid : Lawfully b = lawful_then t base knows n stamp before is.inv b c h.extends.more h.extends.entries lawful in
        h.on lawful (amid_on a b g.extends mid is) (g.on mid is holds);
  }

  -- a rule that leaves it
  pub goes_left : (work new : Work) → LeavesPlaces t work new → G work new
  goes_left work new l = record { extends = extends_of t work new l; on = λ lawful is holds. left is lawful holds }
    where
      left : IsAmid base n stamp before work → Lawfully new → HoldsOr D t base knows n stamp before work → HoldsOr D t base knows n stamp before new
      left is lawful (inl doomed) = inl doomed
      left is lawful (inr placed) = inr (left_on t base knows n stamp before is.inv work new l lawful placed)

  -- one that bears on it, or it is doomed
  pub goes_by : (v : Tid) (work new : Work) → LeavesPlaces v work new → (IsAmid base n stamp before work → Lawfully new → PlacedAmid t base knows n stamp before work → HoldsOr D t base knows n stamp before new) → G work new
  goes_by v work new l goes = record { extends = extends_of v work new l; on = λ lawful is holds. by is lawful holds }
    where
      by : IsAmid base n stamp before work → Lawfully new → HoldsOr D t base knows n stamp before work → HoldsOr D t base knows n stamp before new
      by is lawful (inl doomed) = inl doomed
      by is lawful (inr placed) = goes is lawful placed

  pub goes_fold : {A : Type 0} (C : Work → A → Type 0) (f : Work → A → Work) → ((work : Work) (x : A) → C work x → G work (f work x)) → (xs : List A) (work : Work) → AtEach C f work xs → G work (fold f work xs)
  goes_fold C f each [] work all = goes_itself work
  goes_fold C f each (x ∷ xs) work all = goes_then work (f work x) (fold f work (x ∷ xs)) (each work x all.0) (goes_fold C f each xs (f work x) all.1)

  pub goes_undecided : (tid : Tid) (rule : Participant → Work → Work) (work : Work) → ((part : Participant) → part_of tid work ≡ Some part → G work (rule part work)) → G work (where_undecided tid rule work)
  goes_undecided tid rule work each = by (part_of tid work) refl
    where
      if_goes : (b : Bool) (part : Participant) → G work (rule part work) → G work (if b then rule part work else work)
      if_goes true part g = g
      if_goes false part g = goes_itself work

      by : (o : Option Participant) → part_of tid work ≡ o → G work (elim o [ None ↦ work | Some part ↦ if is_undecided part then rule part work else work ])
      by None none = goes_itself work
      by (Some part) known = if_goes (is_undecided part) part (each part known)

  -- ---- a request

  pub issue_goes_on : (work : Work) (request : Outstanding) (op : Op) → D ⊎ IssuesWell t base knows n stamp before request op work → G work (issue_as t request op work)
  issue_goes_on work request op well = goes_by (beside t) work (issue_as t request op work) (issue_as_leaves (beside t) t (is_beside t) request op work) (λ is lawful placed. by well is lawful placed)
    where
      node_of : (a b : NodeNo) → (a.0 == b.0) ≡ true → a ≡ b
      node_of a b so = ap (λ (k : ℕ). node_as k) (eqb-true a.0 b.0 so)
        where
          node_as : ℕ → NodeNo
          node_as k = record { 0 = k }

      by : D ⊎ IssuesWell t base knows n stamp before request op work → IsAmid base n stamp before work → Lawfully (issue_as t request op work) → PlacedAmid t base knows n stamp before work → HoldsOr D t base knows n stamp before (issue_as t request op work)
      by (inl doomed) is lawful placed = inl doomed
      by (inr w) is lawful placed = inr (where_to (same_node request.member.node (here work)) refl lawful)
        where
          where_to : (b : Bool) → same_node request.member.node (here work) ≡ b → Lawfully (if b then issue_here t request op work else issue_away t request op work) → PlacedAmid t base knows n stamp before (if b then issue_here t request op work else issue_away t request op work)
          where_to true same lawful = issued_here t base knows n stamp before is.inv request op work is.here is.in_run w.fits (node_of request.member.node (here work) same) is.up is.inc lawful placed
          where_to false apart lawful = let r = w.reaches apart in issued_away t base knows n stamp before is.inv request op work is.here is.in_run w.in_run r.0 is.up is.inc r.1 lawful placed

pub issue_goes : IssueGoes
issue_goes w t base knows n stamp before work request op well = issue_goes_on (IsDoomed w) t base knows n stamp before work request op well
