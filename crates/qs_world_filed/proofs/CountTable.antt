-- Through each deed of a step that serves nothing the machine counts what files have pending, and each vote of files for commit is noted: the table of its deeds.
use Rattle.std.proofs.Common.{◌≡◌, ◌∙◌, ℕ, ◌==◌, true, false, List, [], ◌∷◌, ◌++◌, Option, Some, None, refl, sym, ap, subst, arith}
use Rattle.std.proofs.lemmas.Bool.Decides.{nat_tests}
use Rattle.std.specs.List.{list_any}
use Rattle.std.specs.Prelude.{◌&&◌, slice_get}
use Rattle.qs_base.specs.declared.identifiers.Member.{Member}
use Rattle.qs_base.specs.declared.identifiers.Outcome.{Outcome}
use Rattle.qs_base.specs.declared.identifiers.Tid.{Tid}
use Rattle.qs_base_lemmas.proofs.Tests.{and_first}
use Rattle.qs_book_journal.specs.declared.entry.Act.{Act}
use Rattle.qs_book_journal.specs.declared.entry.Act.TheVariants as acts
use Rattle.qs_book_journal.specs.declared.entry.Entry.{Entry}
use Rattle.qs_book_laws.proofs.Steps.{held, lawful_front, lawful_rest}
use Rattle.qs_book_laws.specs.Lives.{is_restart}
use Rattle.qs_book_machine.specs.Book.{BookValue, find_transaction, inc_at}
use Rattle.qs_book_machine.specs.Clauses.{broken_ending, broken_learn, broken_vote, is_immediate, may_end}
use Rattle.qs_book_machine.specs.Lawful.{IsLawful, book_after, broken, broken_act, broken_at, effect, is_in_order}
use Rattle.qs_book_machine.specs.Nodes as machine
use Rattle.qs_book_machine.specs.Transaction.{TransactionValue}
use Rattle.qs_ops.specs.Members.{class_of}
use Rattle.qs_ops.specs.Servers as numbers
use Rattle.qs_ops.specs.declared.vote.Vote.{Vote}
use Rattle.qs_book_conformance.specs.Course.{CourseValue}
use Rattle.qs_node_servers.specs.Servers.{ServersValue}
use Rattle.qs_node_step.specs.State.{Work}
use Rattle.qs_node_step.specs.declared.setting.Setting.{Setting}
use Rattle.qs_world.specs.Posting.{entries_of, entry_of}
use Rattle.qs_world_course.specs.Kinds.{Keeps, course_on}
use Rattle.qs_world_lawful.proofs.LastsOpening.{lasts_ran}
use Rattle.qs_world_lawful.proofs.LastsWell.{LastsWell}
use Rattle.qs_world_runs.proofs.PlacesGo.{inc_stays}
use Rattle.qs_world_walk.specs.Stage.{Serves, Settles, Stage, Turn, Waits}
use Rattle.qs_world_filed.specs.Parts.{broken_noting, noted}
use Rattle.qs_world_filed.proofs.Counts.{CountsSo}
use Rattle.qs_world_filed.proofs.Going.{acts_more}
use Rattle.qs_world_filed.proofs.Leaves.{entries_leave}
use Rattle.qs_world_filed.proofs.NotesGoing.{any_both_off, book_both}
use Rattle.qs_world_filed.proofs.Over.{keeps_both}
use Rattle.qs_world_filed.proofs.SeenActs.{timers_alone}

-- ---- what lawful acts are of

pub vote_known : (book : BookValue) (n stamp : ℕ) (tid : Tid) (member : Member) (ballot : Vote) (covers : ℕ) → broken book (entry_of n stamp (acts.Vote tid member ballot covers)) ≡ None → find_transaction book tid ≡ None → ⊥
vote_known book n stamp tid member ballot covers h none = by (slice_get book.nodes n) (held (is_in_order book (entry_of n stamp (acts.Vote tid member ballot covers))) 1 _ h).1
  where
    by : (o : Option machine.NodeValue) → broken_at book stamp n o (acts.Vote tid member ballot covers) ≡ None → ⊥
    by None k = cc k
    by (Some v) k = cc (subst (λ (o : Option TransactionValue). broken_vote n v tid o member ballot covers ≡ None) none (held v.up 2 (broken_act book stamp n v (acts.Vote tid member ballot covers)) k).1)

pub learn_known : (book : BookValue) (n stamp : ℕ) (tid : Tid) (member : Member) (outcome : Outcome) → broken book (entry_of n stamp (acts.Learn tid member outcome)) ≡ None → find_transaction book tid ≡ None → ⊥
learn_known book n stamp tid member outcome h none = by (slice_get book.nodes n) (held (is_in_order book (entry_of n stamp (acts.Learn tid member outcome))) 1 _ h).1
  where
    by : (o : Option machine.NodeValue) → broken_at book stamp n o (acts.Learn tid member outcome) ≡ None → ⊥
    by None k = cc k
    by (Some v) k = cc (subst (λ (o : Option TransactionValue). broken_learn n v o member outcome ≡ None) none (held v.up 2 (broken_act book stamp n v (acts.Learn tid member outcome)) k).1)

pub ending_far : (book : BookValue) (n stamp : ℕ) (tid : Tid) (member : Member) → broken book (entry_of n stamp (acts.Ending tid member)) ≡ None → (member.server.0 == numbers.files_no) ≡ false
ending_far book n stamp tid member h = far member.server.0 (timers_alone member.server.0 (by (slice_get book.nodes n) (held (is_in_order book (entry_of n stamp (acts.Ending tid member))) 1 _ h).1))
  where
    far : (k : ℕ) → k ≡ 3 → (k == 0) ≡ false
    far k is = grind (arith, nat_tests, is)

    of : (v : machine.NodeValue) (o : Option TransactionValue) → broken_ending n v o member ≡ None → is_immediate (class_of member.server.0) ≡ true
    of v None k = absurd (cc k)
    of v (Some tx) k = and_first (is_immediate (class_of member.server.0)) _ (and_first (is_immediate (class_of member.server.0) && (member.node.0 == n)) _ (held (may_end n v tx member) 90 None k).0)

    by : (o : Option machine.NodeValue) → broken_at book stamp n o (acts.Ending tid member) ≡ None → is_immediate (class_of member.server.0) ≡ true
    by None k = absurd (cc k)
    by (Some v) k = of v (find_transaction book tid) (held v.up 2 (broken_act book stamp n v (acts.Ending tid member)) k).1

module _ (setting : Setting) (stamp : ℕ) (course : CourseValue) (well : LastsWell course.book) (first : inc_at course.book (record { 0 = setting.node.0 }) ≡ setting.inc) (audit : course.audit ≡ setting.audit) where
  abbrev pub entries : List Act → List Entry
  entries done = entries_of setting.node.0 stamp done

  abbrev pub at : List Act → BookValue
  at done = book_after course.book (entries done)

  abbrev pub Lawful : List Act → Type 0
  Lawful done = IsLawful course.book (entries done)

  abbrev pub So : BookValue → ServersValue → Type 0
  So book servers = CountsSo setting.node setting.inc book servers

  pub record Counting (done : List Act) (servers : ServersValue) : Type 0 where
    pub counts : Lawful done → So (at done) servers
    pub kept : Lawful done → Keeps noted course (entries done)
    pub still : Lawful done → list_any is_restart done ≡ false

  -- an act with what it makes of the servers
  abbrev pub Next : Act → ServersValue → ServersValue → Type 0
  Next act servers later = (now : BookValue) → LastsWell now → inc_at now (record { 0 = setting.node.0 }) ≡ setting.inc → broken now (entry_of setting.node.0 stamp act) ≡ None → So now servers → So (effect now (entry_of setting.node.0 stamp act)) later

  step_on : (done : List Act) (act : Act) (servers later : ServersValue) → is_restart act ≡ false → (Lawful done → Next act servers later)
      → (Lawful done → (now : CourseValue) → now.book ≡ at done → now.audit ≡ setting.audit → inc_at (at done) (record { 0 = setting.node.0 }) ≡ setting.inc → So (at done) servers → broken_noting now setting.node.0 act ≡ None) → Counting done servers → Counting (done ++ act ∷ []) later
  step_on done act servers later ordinary next fits h = record {
    counts = λ lawful. subst (λ (b : BookValue). So b later) (sym then_is) (next (front lawful) (at done) (lasts_ran (entries done) course.book well (front lawful)) (inc (front lawful)) (fine lawful) (h.counts (front lawful)));
    kept = λ lawful. subst (Keeps noted course) (sym split) (keeps_both noted course (entries done) (entry ∷ []) (h.kept (front lawful))
        (fits (front lawful) (course_on course (entries done)) (entries_leave course (entries done)).book ((entries_leave course (entries done)).setting.audit ∙ audit) (inc (front lawful)) (h.counts (front lawful)), tt));
    still = λ lawful. any_both_off is_restart done (act ∷ []) (h.still (front lawful)) (rw ordinary refl);
  }
    where
      entry : Entry
      entry = entry_of setting.node.0 stamp act

      split : entries (done ++ act ∷ []) ≡ entries done ++ entry ∷ []
      split = acts_more setting.node.0 stamp done (act ∷ [])

      front : Lawful (done ++ act ∷ []) → Lawful done
      front lawful = lawful_front (entries done) (entry ∷ []) course.book (subst (IsLawful course.book) split lawful)

      fine : Lawful (done ++ act ∷ []) → broken (at done) entry ≡ None
      fine lawful = (lawful_rest (entries done) (entry ∷ []) course.book (subst (IsLawful course.book) split lawful)).0

      inc : Lawful done → inc_at (at done) (record { 0 = setting.node.0 }) ≡ setting.inc
      inc lawful = inc_stays setting.node.0 stamp done course.book (h.still lawful) lawful ∙ first

      then_is : at (done ++ act ∷ []) ≡ effect (at done) entry
      then_is = ap (book_after course.book) split ∙ book_both course.book (entries done) (entry ∷ [])

  -- in the incarnation of the node
  pub in_inc : (now new : BookValue) (servers later : ServersValue) → inc_at now (record { 0 = setting.node.0 }) ≡ setting.inc
      → (CountsSo setting.node (inc_at now (record { 0 = setting.node.0 })) now servers → CountsSo setting.node (inc_at now (record { 0 = setting.node.0 })) new later) → So now servers → So new later
  in_inc now new servers later is goes = subst (λ (i : ℕ). CountsSo setting.node i now servers → CountsSo setting.node i new later) is goes

  -- in no turn of a server
  abbrev pub In : Option Turn → List Act → ServersValue → Type 0
  In None done servers = Counting done servers
  In (Some (Serves server)) done servers = ⊥
  In (Some (Settles tid)) done servers = Counting done servers
  In (Some (Waits client)) done servers = Counting done servers

  abbrev pub IsCounting : Stage → Work → Type 0
  IsCounting stage work = In stage.turn work.out.entries work.node.servers

  pub one : (turn : Option Turn) (done : List Act) (act : Act) (servers later : ServersValue) → is_restart act ≡ false → (Lawful done → Next act servers later)
      → (Lawful done → (now : CourseValue) → now.book ≡ at done → now.audit ≡ setting.audit → inc_at (at done) (record { 0 = setting.node.0 }) ≡ setting.inc → So (at done) servers → broken_noting now setting.node.0 act ≡ None) → In turn done servers → In turn (done ++ act ∷ []) later
  one None done act servers later ordinary next fits h = step_on done act servers later ordinary next fits h
  one (Some (Serves server)) done act servers later ordinary next fits h = h
  one (Some (Settles tid)) done act servers later ordinary next fits h = step_on done act servers later ordinary next fits h
  one (Some (Waits client)) done act servers later ordinary next fits h = step_on done act servers later ordinary next fits h
