-- Rules in a row make the records that each of them makes; a rule that makes none leaves what was made.
use Rattle.qs_world_runs.proofs.Words.{◌≡◌, ◌⊎◌, inl, inr, ℕ, ◌≤◌, ◌+◌, arith, ◌++◌, ◌||◌, append-nil, append_assoc, Bool, true, false, List, [], ◌∷◌, Option, Some, None, fold, refl, sym, ap, subst, ◌∙◌, if◌then◌else◌, list_any, list_any-append, NodeNo, Tid, Act, Record, where_undecided, Work, here, is_undecided, Participant, Every, every_on, every_append, Quiet, commits_of, decides_of, one_if, is_prepare_at, plus_zero, zero_plus, is_zero_plus, zero_le}
use Rattle.qs_book_journal.specs.declared.entry.Act.TheVariants as acts
use Rattle.qs_ops.specs.declared.vote.Vote.TheVariants as votes
use Rattle.qs_record.specs.declared.record.Record.TheVariants as made
use Rattle.qs_node_step.specs.State.{part_of}
use Rattle.qs_world_lawful.specs.Logged.{IsPlain}
use Rattle.qs_world_runs.specs.CutRecords.{IsEntered, decides_commit, is_commit_record}
use Rattle.qs_world_runs.specs.OnRecord.{IsPut}

-- ---- among more entries

behind : (me : NodeNo) (front done : List Act) (rec : Record) → IsEntered me done rec → IsEntered me (front ++ done) rec
behind me front done (made.Prepare tid server covers changes) e = (record { before = front ++ e.0.before; after = e.0.after; is = ap (λ (acts : List Act). front ++ acts) e.0.is ∙ sym (append_assoc front e.0.before _) }, e.1)
behind me front done (made.Commit tid told) e = record { before = front ++ e.before; cause = e.cause; after = e.after; is = ap (λ (acts : List Act). front ++ acts) e.is ∙ sym (append_assoc front e.before _) }
behind me front done (made.Aborted tid) e = record { before = front ++ e.before; cause = e.cause; after = e.after; is = ap (λ (acts : List Act). front ++ acts) e.is ∙ sym (append_assoc front e.before _) }
behind me front done (made.End tid) e = absurd e

ahead : (me : NodeNo) (done back : List Act) (rec : Record) → IsEntered me done rec → IsEntered me (done ++ back) rec
ahead me done back (made.Prepare tid server covers changes) e = (record { before = e.0.before; after = e.0.after ++ back; is = ap (λ (acts : List Act). acts ++ back) e.0.is ∙ append_assoc e.0.before _ back }, e.1)
ahead me done back (made.Commit tid told) e = record { before = e.before; cause = e.cause; after = e.after ++ back; is = ap (λ (acts : List Act). acts ++ back) e.is ∙ append_assoc e.before _ back }
ahead me done back (made.Aborted tid) e = record { before = e.before; cause = e.cause; after = e.after ++ back; is = ap (λ (acts : List Act). acts ++ back) e.is ∙ append_assoc e.before _ back }
ahead me done back (made.End tid) e = absurd e

-- ---- each vote that goes on record has its Prepare

plain_put : (made : List Record) (act : Act) → IsPlain act → IsPut made act
plain_put made (acts.Vote tid member votes.Recoverable covers) plain = absurd (cc plain)
plain_put made act plain = tt

pub all_plain : (made : List Record) (done : List Act) → Every IsPlain done → Every (IsPut made) done
all_plain made done plain = every_on IsPlain (IsPut made) (plain_put made) done plain

put_more : (front made back : List Record) (act : Act) → IsPut made act → IsPut (front ++ (made ++ back)) act
put_more front made back (acts.Vote tid member votes.Recoverable covers) is =
    list_any-append (is_prepare_at tid member.server.0) front (made ++ back) ∙ (ap (λ (b : Bool). list_any (is_prepare_at tid member.server.0) front || b) (list_any-append (is_prepare_at tid member.server.0) made back) ∙ in_all (list_any (is_prepare_at tid member.server.0) front) (list_any (is_prepare_at tid member.server.0) made) (list_any (is_prepare_at tid member.server.0) back) is)
  where
    in_all : (a b c : Bool) → b ≡ true → (a || (b || c)) ≡ true
    in_all true b c e = refl
    in_all false b c e = rw e refl
put_more front made back act is = tt

-- ---- counts

pub commits_both : (tid : Tid) (xs ys : List Record) → commits_of tid (xs ++ ys) ≡ commits_of tid xs + commits_of tid ys
commits_both tid [] ys = is_zero_plus (commits_of tid ys)
commits_both tid (x ∷ xs) ys = ap (λ (n : ℕ). one_if (is_commit_record tid x) + n) (commits_both tid xs ys) ∙ sums (one_if (is_commit_record tid x)) (commits_of tid xs) (commits_of tid ys)
  where
    sums : (a b c : ℕ) → a + (b + c) ≡ a + b + c
    sums a b c = grind (arith)

decides_both : (tid : Tid) (xs ys : List Act) → decides_of tid (xs ++ ys) ≡ decides_of tid xs + decides_of tid ys
decides_both tid [] ys = is_zero_plus (decides_of tid ys)
decides_both tid (x ∷ xs) ys = ap (λ (n : ℕ). one_if (decides_commit tid x) + n) (decides_both tid xs ys) ∙ sums (one_if (decides_commit tid x)) (decides_of tid xs) (decides_of tid ys)
  where
    sums : (a b c : ℕ) → a + (b + c) ≡ a + b + c
    sums a b c = grind (arith)

-- ---- rules; beside what was entered a record may have another source, and a Commit that was told

abbrev pub none_told : Tid → ℕ
none_told tid = 0

module _ (me : NodeNo) (Else : Record → Type 0) where
  abbrev pub IsFrom : List Act → Record → Type 0
  IsFrom done rec = IsEntered me done rec ⊎ Else rec

  pub record Makes (told : Tid → ℕ) (work new : Work) : Type 0 where
    pub more : List Act
    pub made : List Record
    pub entries : new.out.entries ≡ work.out.entries ++ more
    pub records : new.out.records ≡ work.out.records ++ made
    pub setting : new.node.setting ≡ work.node.setting
    pub from : here work ≡ me → Every (IsFrom more) made
    pub once : (tid : Tid) → commits_of tid made ≤ decides_of tid more + told tid
    pub puts : Every (IsPut made) more

  -- it enters some, and makes none
  pub makes_none : (work new : Work) (more : List Act) → new.out.entries ≡ work.out.entries ++ more → new.out.records ≡ work.out.records → new.node.setting ≡ work.node.setting → Every (IsPut []) more → Makes none_told work new
  makes_none work new more entries records setting puts = record { more = more; made = []; entries = entries; records = records ∙ sym (append-nil work.out.records); setting = setting; from = λ is. tt; once = λ tid. zero_le (decides_of tid more + 0); puts = puts }

  pub makes_quiet : (work new : Work) → Quiet work new → Makes none_told work new
  makes_quiet work new q = makes_none work new q.more q.entries q.records q.setting (all_plain [] q.more q.plain)

  pub makes_self : (work : Work) → Makes none_told work work
  makes_self work = makes_none work work [] (sym (append-nil work.out.entries)) refl refl tt

  module _ (a_told b_told all_told : Tid → ℕ) (sums : (tid : Tid) → a_told tid + b_told tid ≡ all_told tid) where
    makes_both : (work mid new : Work) → Makes a_told work mid → Makes b_told mid new → Makes all_told work new
    makes_both work mid new a b = record {
      more = a.more ++ b.more;
      made = a.made ++ b.made;
      entries = b.entries ∙ (ap (λ (acts : List Act). acts ++ b.more) a.entries ∙ append_assoc work.out.entries a.more b.more);
      records = b.records ∙ (ap (λ (rs : List Record). rs ++ b.made) a.records ∙ append_assoc work.out.records a.made b.made);
      setting = b.setting ∙ a.setting;
      from = λ is. every_append (IsFrom (a.more ++ b.more)) a.made b.made (every_on (IsFrom a.more) (IsFrom (a.more ++ b.more)) first a.made (a.from is))
          (every_on (IsFrom b.more) (IsFrom (a.more ++ b.more)) last b.made (b.from (ap (λ s. s.node) a.setting ∙ is)));
      puts = every_append (IsPut (a.made ++ b.made)) a.more b.more (every_on (IsPut a.made) (IsPut (a.made ++ b.made)) (put_more [] a.made b.made) a.more a.puts)
          (every_on (IsPut b.made) (IsPut (a.made ++ b.made)) (λ act is. subst (λ (rs : List Record). IsPut (a.made ++ rs) act) (append-nil b.made) (put_more a.made b.made [] act is)) b.more b.puts);
      once = λ tid. subst (λ (n : ℕ). n ≤ decides_of tid (a.more ++ b.more) + all_told tid) (sym (commits_both tid a.made b.made))
          (subst (λ (n : ℕ). commits_of tid a.made + commits_of tid b.made ≤ n + all_told tid) (sym (decides_both tid a.more b.more))
          (added (commits_of tid a.made) (commits_of tid b.made) (decides_of tid a.more) (decides_of tid b.more) (a_told tid) (b_told tid) (all_told tid) (a.once tid) (b.once tid) (sums tid)));
    }
      where
        first : (rec : Record) → IsFrom a.more rec → IsFrom (a.more ++ b.more) rec
        first rec (inl e) = inl (ahead me a.more b.more rec e)
        first rec (inr e) = inr e

        last : (rec : Record) → IsFrom b.more rec → IsFrom (a.more ++ b.more) rec
        last rec (inl e) = inl (behind me a.more b.more rec e)
        last rec (inr e) = inr e

        added : (a b c d x y z : ℕ) → a ≤ c + x → b ≤ d + y → x + y ≡ z → a + b ≤ c + d + z
        added a b c d x y z p q r = grind (arith, p, q, r)

  -- the one or the other after rules that were told nothing
  pub makes_then : (told : Tid → ℕ) (work mid new : Work) → Makes told work mid → Makes none_told mid new → Makes told work new
  makes_then told = makes_both told none_told told (λ tid. plus_zero (told tid))

  pub then_makes : (told : Tid → ℕ) (work mid new : Work) → Makes none_told work mid → Makes told mid new → Makes told work new
  then_makes told = makes_both none_told told told (λ tid. zero_plus (told tid))

  pub makes_if : (b : Bool) (work x y : Work) → Makes none_told work x → Makes none_told work y → Makes none_told work (if b then x else y)
  makes_if true work x y p q = p
  makes_if false work x y p q = q

  pub makes_fold : {A : Type 0} (f : Work → A → Work) → ((work : Work) (a : A) → Makes none_told work (f work a)) → (xs : List A) (work : Work) → Makes none_told work (fold f work xs)
  makes_fold f each [] work = makes_self work
  makes_fold f each (x ∷ xs) work = makes_then none_told work (f work x) (fold f (f work x) xs) (each work x) (makes_fold f each xs (f work x))

  pub makes_where : (tid : Tid) (rule : Participant → Work → Work) (work : Work) → ((part : Participant) → Makes none_told work (rule part work)) → Makes none_told work (where_undecided tid rule work)
  makes_where tid rule work each = by (part_of tid work)
    where
      by : (o : Option Participant) → Makes none_told work (elim o [ None ↦ work | Some part ↦ if is_undecided part then rule part work else work ])
      by None = makes_self work
      by (Some part) = makes_if (is_undecided part) work (rule part work) work (each part) (makes_self work)
