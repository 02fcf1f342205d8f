-- What the rules of files read of a course: the audit node and the quotas, which no entry changes, and the machine, which goes on by each entry.
use Rattle.std.specs.Prelude.{◌≡◌, ℕ, List}
use Rattle.qs_book_journal.specs.declared.entry.Entry.{Entry}
use Rattle.qs_book_machine.specs.Lawful.{book_after}
use Rattle.qs_book_conformance.specs.Course.{CourseValue}
use Rattle.qs_book_conformance.specs.Files.{quota_at}
use Rattle.qs_world_course.specs.Kinds.{course_on, filed}

-- both have the same audit node and the same quotas
pub record SameSetting (old new : CourseValue) : Type 0 where
  pub audit : new.audit ≡ old.audit
  pub quotas : (n : ℕ) → quota_at new n ≡ quota_at old n

-- so has a course after entries, and its machine is the machine after them
pub record GoesOn (course : CourseValue) (entries : List Entry) : Type 0 where
  pub setting : SameSetting course (course_on course entries)
  pub book : (course_on course entries).book ≡ book_after course.book entries

abbrev pub EntriesLeaveSetting : Type 0
EntriesLeaveSetting = (course : CourseValue) (entries : List Entry) → GoesOn course entries

-- and files are judged by nothing else
abbrev pub FiledBySetting : Type 0
FiledBySetting = (one other : CourseValue) (entry : Entry) → SameSetting one other → other.book ≡ one.book → filed other entry ≡ filed one entry
