-- In the middle of a step: where what was entered so far is lawful, it keeps to quotas, and the machine has what the servers of the node hold.
use Rattle.std.proofs.Common.{◌≡◌, ◌∙◌, ℕ, List, [], ◌∷◌, ◌++◌, None, refl, sym, ap, subst}
use Rattle.qs_base.specs.declared.identifiers.NodeNo.{NodeNo}
use Rattle.qs_book_journal.specs.declared.entry.Act.{Act}
use Rattle.qs_book_journal.specs.declared.entry.Entry.{Entry}
use Rattle.qs_book_laws.proofs.Steps.{lawful_front, lawful_rest}
use Rattle.qs_book_machine.specs.Book.{BookValue}
use Rattle.qs_book_machine.specs.Lawful.{IsLawful, broken, effect}
use Rattle.qs_book_conformance.specs.Course.{CourseValue}
use Rattle.qs_book_conformance.specs.Effects.{course_after}
use Rattle.qs_book_conformance.specs.Files.{quota_at}
use Rattle.qs_node_servers.specs.Servers.{ServersValue}
use Rattle.qs_world.specs.Posting.{entries_of, entry_of}
use Rattle.qs_world_course.specs.Kinds.{Keeps, course_on}
use Rattle.qs_world_lawful.proofs.LastsEntry.{lasts_on}
use Rattle.qs_world_lawful.proofs.LastsWell.{LastsWell}
use Rattle.qs_world_filed.specs.Parts.{broken_fit, within_quotas}
use Rattle.qs_world_filed.proofs.Leaves.{entries_leave}
use Rattle.qs_world_filed.proofs.Over.{course_both, keeps_both}
use Rattle.qs_world_filed.proofs.SeenActs.{HoldsSeen}

pub acts_more : (n stamp : ℕ) (acts more : List Act) → entries_of n stamp (acts ++ more) ≡ entries_of n stamp acts ++ entries_of n stamp more
acts_more n stamp [] more = refl
acts_more n stamp (act ∷ acts) more = ap (λ (es : List Entry). entry_of n stamp act ∷ es) (acts_more n stamp acts more)

module _ (here : NodeNo) (stamp : ℕ) (course : CourseValue) (quota : ℕ) (limit : quota_at course here.0 ≡ quota) where
  -- the course after these
  abbrev pub course_at : List Act → CourseValue
  course_at acts = course_on course (entries_of here.0 stamp acts)

  pub record Good (acts : List Act) (servers : ServersValue) : Type 0 where
    pub well : LastsWell (course_at acts).book
    pub seen : HoldsSeen here (course_at acts).book servers
    pub kept : Keeps within_quotas course (entries_of here.0 stamp acts)

  abbrev pub Going : List Act → ServersValue → Type 0
  Going acts servers = IsLawful course.book (entries_of here.0 stamp acts) → Good acts servers

  -- an act with what it makes of the servers, wherever the machine has what they hold
  abbrev pub GoesWith : Act → ServersValue → ServersValue → Type 0
  GoesWith act servers later = (now : CourseValue) → quota_at now here.0 ≡ quota → LastsWell now.book → HoldsSeen here now.book servers → broken now.book (entry_of here.0 stamp act) ≡ None
      → HoldsSeen here (effect now.book (entry_of here.0 stamp act)) later × (broken_fit now here.0 act ≡ None)

  pub goes_on : (acts : List Act) (act : Act) (servers later : ServersValue) → GoesWith act servers later → Going acts servers → Going (acts ++ act ∷ []) later
  goes_on acts act servers later goes going lawful = record {
    well = subst (λ (c : CourseValue). LastsWell c.book) (sym then_is) (lasts_on (course_at acts).book entry g.well fine);
    seen = subst (λ (c : CourseValue). HoldsSeen here c.book later) (sym then_is) after.0;
    kept = subst (Keeps within_quotas course) (sym split) (keeps_both within_quotas course (entries_of here.0 stamp acts) (entry ∷ []) g.kept (after.1, tt));
  }
    where
      entry : Entry
      entry = entry_of here.0 stamp act

      split : entries_of here.0 stamp (acts ++ act ∷ []) ≡ entries_of here.0 stamp acts ++ entry ∷ []
      split = acts_more here.0 stamp acts (act ∷ [])

      whole : IsLawful course.book (entries_of here.0 stamp acts ++ entry ∷ [])
      whole = subst (IsLawful course.book) split lawful

      g : Good acts servers
      g = going (lawful_front (entries_of here.0 stamp acts) (entry ∷ []) course.book whole)

      fine : broken (course_at acts).book entry ≡ None
      fine = subst (λ (b : BookValue). broken b entry ≡ None) (sym (entries_leave course (entries_of here.0 stamp acts)).book) (lawful_rest (entries_of here.0 stamp acts) (entry ∷ []) course.book whole).0

      after : HoldsSeen here (effect (course_at acts).book entry) later × (broken_fit (course_at acts) here.0 act ≡ None)
      after = goes (course_at acts) ((entries_leave course (entries_of here.0 stamp acts)).setting.quotas here.0 ∙ limit) g.well g.seen fine

      then_is : course_at (acts ++ act ∷ []) ≡ course_after (course_at acts) entry
      then_is = ap (course_on course) split ∙ course_both course (entries_of here.0 stamp acts) (entry ∷ [])
