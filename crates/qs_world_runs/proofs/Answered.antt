-- A step answers commands that are in hand, each once: so it is after each thing that a rule does.
use Rattle.qs_world_runs.proofs.Words.{◌≡◌, ◌≢◌, ◌⊎◌, inl, inr, ℕ, ◌==◌, Bool, true, false, ◌||◌, List, [], ◌∷◌, ◌++◌, Option, Some, None, Equal, refl, sym, ap, subst, ◌∙◌, nat_cmp_total, tied_itself, list_any-append, insert_entry, is_at, IsTotalOrder, list_any, lookup, remove_entry, ClientNo, Act, ScriptLine, changed_apart, changed_none, IsRising, put_rises, remove_rises, removed, Answer, client_cmp, step_work, ClientAnswer, Event, Issued, OpenCommand, command_of, IsOfOpen, with_event}
use Rattle.qs_world_runs.proofs.Words.{IsKept, IsOrdinary, Trace, fresh_command, trace_of, Every, AreApart, client_exact, same_client_or, every_on, every_more, eqb-true, eqb-self, some_same}
use Rattle.std.proofs.lemmas.Cmp.{on_total}
use Rattle.std.proofs.lemmas.Map.Lookups.{exact_unsigned}
use Rattle.qs_book_journal.specs.declared.entry.Act.TheVariants as acts
use Rattle.qs_book_journal.specs.declared.script_line.Command.TheVariants as commands
use Rattle.qs_book_laws.proofs.Maps.{lookup_changed, lookup_put, lookup_put_apart}
use Rattle.qs_ops.specs.declared.answer.Answer.TheVariants as answers
use Rattle.qs_node_step.specs.State.{NodeValue}
use Rattle.qs_node_step.specs.declared.event.Event.TheVariants as events
use Rattle.qs_tm.specs.Manager as tm
use Rattle.qs_world.specs.Posting.{is_answer_to}
use Rattle.qs_world_runs.specs.Answering.{Answering, Commands, IsFree, IsOpenStill, WasOpen}
use Rattle.qs_world_runs.specs.Traces.{answered, entered, noted, with_issued, with_line}
use Rattle.qs_world_lawful.proofs.OtherShares.{removed_apart}
use Rattle.qs_world_lawful.proofs.TellingOn.{changed_rises}
use Rattle.qs_world_runs.proofs.TraceStages.{step_traced}

client_total : IsTotalOrder client_cmp
client_total = on_total (λ (c : ClientNo). c.0) nat_cmp_total

-- ---- answers grow

module _ (said : List ClientAnswer) (a : ClientAnswer) where
  or_later : (k : ℕ) → list_any (is_answer_to k) said ≡ true → list_any (is_answer_to k) (said ++ a ∷ []) ≡ true
  or_later k is = list_any-append (is_answer_to k) said (a ∷ []) ∙ ap (λ (b : Bool). b || list_any (is_answer_to k) (a ∷ [])) is

  or_last : list_any (is_answer_to a.client.0) (said ++ a ∷ []) ≡ true
  or_last = list_any-append (is_answer_to a.client.0) said (a ∷ []) ∙ of (list_any (is_answer_to a.client.0) said) (a.client.0 == a.client.0) (eqb-self a.client.0)
    where
      of : (b c : Bool) → c ≡ true → (b || (c || false)) ≡ true
      of true c is = refl
      of false c is = rw is refl

  not_last : (k : ℕ) → (a.client.0 == k) ≡ false → list_any (is_answer_to k) said ≡ false → list_any (is_answer_to k) (said ++ a ∷ []) ≡ false
  not_last k far none = list_any-append (is_answer_to k) said (a ∷ []) ∙ of (list_any (is_answer_to k) said) (a.client.0 == k) none far
    where
      of : (b c : Bool) → b ≡ false → c ≡ false → (b || (c || false)) ≡ false
      of b c p q = rw (p, q) refl

  either : (k : ℕ) → list_any (is_answer_to k) (said ++ a ∷ []) ≡ true → (list_any (is_answer_to k) said ≡ true) ⊎ ((a.client.0 == k) ≡ true)
  either k is = of (list_any (is_answer_to k) said) (a.client.0 == k) (sym (list_any-append (is_answer_to k) said (a ∷ [])) ∙ is)
    where
      of : (b c : Bool) → (b || (c || false)) ≡ true → (b ≡ true) ⊎ (c ≡ true)
      of true c e = inl refl
      of false true e = inr refl
      of false false e = absurd (cc e)

-- ---- entries

module _ (was : Commands) where
  grows : (said : List ClientAnswer) (a : ClientAnswer) (act : Act) → IsOfOpen was said act → IsOfOpen was (said ++ a ∷ []) act
  grows said a (acts.Answer client line answer) o = record { old = o.old; there = o.there; line_is = o.line_is; answered = or_later said a client.0 o.answered }
  grows said a (acts.Begin tid label client) o = record { old = o.old; there = o.there; begins = o.begins; label_is = o.label_is; answered = or_later said a client.0 o.answered }
  grows said a (acts.Restart inc pend done) o = absurd o
  grows said a act o = tt

  ordinary : (said : List ClientAnswer) (act : Act) → IsOrdinary act → IsOfOpen was said act
  ordinary said (acts.Answer client line answer) is = absurd is
  ordinary said (acts.Begin tid label client) is = absurd is
  ordinary said (acts.Crash cause) is = absurd is
  ordinary said (acts.Restart inc pend done) is = absurd is
  ordinary said act is = tt

  one_more : (said : List ClientAnswer) (entries : List Act) (act : Act) → Every (IsOfOpen was said) entries → IsOfOpen was said act → Every (IsOfOpen was said) (entries ++ act ∷ [])
  one_more said entries act all one = every_more (IsOfOpen was said) entries (act ∷ []) all (one, tt)

  enters : (t : Trace) (act : Act) → IsOfOpen was t.answers act → Answering was t → Answering was (entered act t)
  enters t act of a = record { rising = a.rising; still = a.still; were = a.were; entries = one_more t.answers t.entries act a.entries of }

  -- ---- a command is answered

  module _ (t : Trace) (client : ClientNo) (command : OpenCommand) (said : Answer) (there : lookup (is_at (client_cmp client)) t.commands ≡ Some command) (a : Answering was t) where
    abbrev one : ClientAnswer
    one = record { client = client; answer = record { line = command.line.line; answer = said } }

    abbrev now : List ClientAnswer
    now = t.answers ++ one ∷ []

    own : IsOpenStill was t.answers client command
    own = a.still client command there

    still_open : (c : ClientNo) (other : OpenCommand) → lookup (is_at (client_cmp c)) (remove_entry (is_at (client_cmp client)) t.commands) ≡ Some other → IsOpenStill was now c other
    still_open c other is = by (same_client_or client c)
      where
        away : (client ≢ c) → (client.0 == c.0) ≡ false
        away far = of (client.0 == c.0) refl
          where
            of : (b : Bool) → (client.0 == c.0) ≡ b → b ≡ false
            of false e = refl
            of true e = absurd (far (ap (λ (n : ℕ). record { 0 = n }) (eqb-true client.0 c.0 e)))

        by : (client ≡ c) ⊎ ((client ≢ c) × AreApart client c) → IsOpenStill was now c other
        by (inl same) = absurd (cc (sym (removed client_cmp client_exact client t.commands a.rising) ∙ subst (λ (x : ClientNo). lookup (is_at (client_cmp x)) (remove_entry (is_at (client_cmp client)) t.commands) ≡ Some other) (sym same) is))
        by (inr far) =
            let s : IsOpenStill was t.answers c other = a.still c other (sym (removed_apart (is_at (client_cmp client)) (is_at (client_cmp c)) far.1 t.commands) ∙ is) in
            record { old = s.old; there = s.there; line = s.line; unanswered = not_last t.answers one c.0 (away far.0) s.unanswered }

    were_open : (k : ℕ) → list_any (is_answer_to k) now ≡ true → WasOpen was (record { 0 = k })
    were_open k is = by (either t.answers one k is)
      where
        by : (list_any (is_answer_to k) t.answers ≡ true) ⊎ ((client.0 == k) ≡ true) → WasOpen was (record { 0 = k })
        by (inl before) = a.were k before
        by (inr same) = record { command = own.old; there = subst (λ (n : ℕ). lookup (is_at (client_cmp (record { 0 = n }))) was ≡ Some own.old) (eqb-true client.0 k same) own.there }

    -- with some entries before the answer
    closes_with : (entries : List Act) → Every (IsOfOpen was now) entries → Answering was (answered client command said (record t { entries = entries }))
    closes_with entries all = record {
      rising = remove_rises client_cmp (is_at (client_cmp client)) t.commands a.rising;
      still = still_open;
      were = were_open;
      entries = one_more now entries (acts.Answer client command.line.line said) all
          (record { old = own.old; there = own.there; line_is = ap (λ (l : ScriptLine). l.line) own.line; answered = or_last t.answers one });
    }

    closes : Answering was (answered client command said t)
    closes = closes_with t.entries (every_on (IsOfOpen was t.answers) (IsOfOpen was now) (grows t.answers one) t.entries a.entries)

  -- a transaction begins
  begins : (t : Trace) (line : ScriptLine) (tid : _) → lookup (is_at (client_cmp line.client)) t.commands ≡ Some (fresh_command line) → line.command ≡ commands.Begin → Answering was t
      → Answering was (answered line.client (fresh_command line) answers.Done (entered (acts.Begin tid line.label line.client) t))
  begins t line tid there is a = closes_with t line.client (fresh_command line) answers.Done there a (t.entries ++ acts.Begin tid line.label line.client ∷ [])
      (one_more said t.entries (acts.Begin tid line.label line.client) (every_on (IsOfOpen was t.answers) (IsOfOpen was said) (grows t.answers made) t.entries a.entries)
      (record { old = own_of.old; there = own_of.there; begins = ap (λ (l : ScriptLine). l.command) own_of.line ∙ is; label_is = ap (λ (l : ScriptLine). l.label) own_of.line; answered = or_last t.answers made }))
    where
      made : ClientAnswer
      made = record { client = line.client; answer = record { line = line.line; answer = answers.Done } }

      said : List ClientAnswer
      said = t.answers ++ made ∷ []

      own_of : IsOpenStill was t.answers line.client (fresh_command line)
      own_of = a.still line.client (fresh_command line) there

  -- a command was issued
  marks : (t : Trace) (client : ClientNo) (issued : Issued) → Answering was t → Answering was (with_issued client issued t)
  marks t client issued a = record {
    rising = changed_rises client_cmp (is_at (client_cmp client)) mark t.commands a.rising;
    still = λ c command is. by c command is (same_client_or client c) (lookup (is_at (client_cmp client)) t.commands) refl;
    were = a.were;
    entries = a.entries;
  }
    where
      mark : OpenCommand → OpenCommand
      mark command = record command { issued = Some issued }

      by : (c : ClientNo) (command : OpenCommand) → lookup (is_at (client_cmp c)) (tm.changed_value (is_at (client_cmp client)) mark t.commands) ≡ Some command → (client ≡ c) ⊎ ((client ≢ c) × AreApart client c)
          → (o : Option OpenCommand) → lookup (is_at (client_cmp client)) t.commands ≡ o → IsOpenStill was t.answers c command
      by c command is (inr far) o was_there = a.still c command (sym (changed_apart (is_at (client_cmp client)) (is_at (client_cmp c)) far.1 mark t.commands) ∙ is)
      by c command is (inl same) None none =
          absurd (cc (sym (changed_none (is_at (client_cmp client)) mark t.commands none) ∙ subst (λ (x : ClientNo). lookup (is_at (client_cmp x)) (tm.changed_value (is_at (client_cmp client)) mark t.commands) ≡ Some command) (sym same) is))
      by c command is (inl same) (Some old) found = subst (λ (x : ClientNo). IsOpenStill was t.answers x command) same
          (let s : IsOpenStill was t.answers client old = a.still client old found in
          record {
            old = s.old;
            there = s.there;
            unanswered = s.unanswered;
            line = s.line ∙ ap (λ (k : OpenCommand). k.line) (some_same (sym (lookup_changed (is_at (client_cmp client)) mark t.commands old found) ∙ subst (λ (x : ClientNo). lookup (is_at (client_cmp x)) (tm.changed_value (is_at (client_cmp client)) mark t.commands) ≡ Some command) (sym same) is));
          })

  pub answering_kept : IsKept (Answering was)
  answering_kept = record {
    enters = λ t act is a. enters t act (ordinary t.answers act is) a;
    sends = λ t to message is a. record { rising = a.rising; still = a.still; were = a.were; entries = a.entries };
    closes = λ t client command said there a. closes t client command said there a;
    begins = λ t line tid there is a. begins (noted (record { label = line.label; tid = Some tid; owner = Some line.client }) t) line tid there is (record { rising = a.rising; still = a.still; were = a.were; entries = a.entries });
    refuses = λ t line a. record { rising = a.rising; still = a.still; were = a.were; entries = a.entries };
    marks = marks;
    issues = λ t tid issuer member number op a. enters t (acts.Issue tid (record { node = t.setting.node; server = issuer }) member number op) tt a;
    asks = λ t tid label issuer member number op far a. (let e : Answering was (entered (acts.Issue tid (record { node = t.setting.node; server = issuer }) member number op) t) = enters t (acts.Issue tid (record { node = t.setting.node; server = issuer }) member number op) tt a in
        record { rising = e.rising; still = e.still; were = e.were; entries = e.entries });
    queues = λ t server delivery own a. record { rising = a.rising; still = a.still; were = a.were; entries = a.entries };
    serves = λ t server delivery reply next a. record { rising = a.rising; still = a.still; were = a.were; entries = one_more t.answers t.entries (acts.Serve delivery.tid (record { node = t.setting.node; server = server }) delivery.from delivery.number reply) a.entries tt };
    leaves = λ t server a. record { rising = a.rising; still = a.still; were = a.were; entries = a.entries };
    forgets = λ t tid a. record { rising = a.rising; still = a.still; were = a.were; entries = a.entries };
    stales = λ t peer a. record { rising = a.rising; still = a.still; were = a.were; entries = a.entries };
  }

-- ---- what comes

module _ (commands : Commands) where
  -- what is in hand is in hand with one more
  put_more : (client : ClientNo) (command : OpenCommand) → lookup (is_at (client_cmp client)) commands ≡ None → (c : ClientNo) (old : OpenCommand) → lookup (is_at (client_cmp c)) commands ≡ Some old → lookup (is_at (client_cmp c)) (insert_entry client_cmp commands client command) ≡ Some old
  put_more client command free c old there = by (is_at (client_cmp c) client) refl
    where
      exact : (x : ClientNo) → client_cmp client x ≡ Equal → client ≡ x
      exact x e = ap (λ (n : ℕ). record { 0 = n }) (exact_unsigned client.0 x.0 e)

      by : (b : Bool) → is_at (client_cmp c) client ≡ b → lookup (is_at (client_cmp c)) (insert_entry client_cmp commands client command) ≡ Some old
      by true is = absurd (cc (sym free ∙ subst (λ (x : ClientNo). lookup (is_at (client_cmp x)) commands ≡ Some old) (client_exact c client is) there))
      by false is = lookup_put_apart client_cmp client command exact (is_at (client_cmp c)) is commands ∙ there

  same_with : (event : Event) → IsFree event commands → (c : ClientNo) (old : OpenCommand) → lookup (is_at (client_cmp c)) commands ≡ Some old → lookup (is_at (client_cmp c)) (with_event event commands) ≡ Some old
  same_with (events.Command client line label command) free c old there = put_more client (fresh_command (record { client = client; line = line; label = label; command = command })) free c old there
  same_with (events.Received peer message) free c old there = there
  same_with events.ServeAll free c old there = there
  same_with (events.PeerRestarted peer old_inc new) free c old there = there
  same_with events.Tick free c old there = there

  module _ (was : Commands) (on : (c : ClientNo) (old : OpenCommand) → lookup (is_at (client_cmp c)) commands ≡ Some old → lookup (is_at (client_cmp c)) was ≡ Some old) where
    open_on : (said : List ClientAnswer) (client : ClientNo) (command : OpenCommand) → IsOpenStill commands said client command → IsOpenStill was said client command
    open_on said client command s = record { old = s.old; there = on client s.old s.there; line = s.line; unanswered = s.unanswered }

    act_on : (said : List ClientAnswer) (act : Act) → IsOfOpen commands said act → IsOfOpen was said act
    act_on said (acts.Answer client line answer) o = record { old = o.old; there = on client o.old o.there; line_is = o.line_is; answered = o.answered }
    act_on said (acts.Begin tid label client) o = record { old = o.old; there = on client o.old o.there; begins = o.begins; label_is = o.label_is; answered = o.answered }
    act_on said (acts.Restart inc pend done) o = absurd o
    act_on said act o = tt

    lets : (t : Trace) → Answering commands t → Answering was t
    lets t a = record {
      rising = a.rising;
      still = λ client command is. open_on t.answers client command (a.still client command is);
      were = λ k is. let w : WasOpen commands (record { 0 = k }) = a.were k is in record { command = w.command; there = on (record { 0 = k }) w.command w.there };
      entries = every_on (IsOfOpen commands t.answers) (IsOfOpen was t.answers) (act_on t.answers) t.entries a.entries;
    }

    -- the command that comes
    comes : (line : ScriptLine) → lookup (is_at (client_cmp line.client)) commands ≡ None → lookup (is_at (client_cmp line.client)) was ≡ Some (fresh_command line) → (t : Trace) → Answering commands t → Answering was (with_line line t)
    comes line free there t a = record {
      rising = put_rises client_cmp client_total line.client (fresh_command line) t.commands a.rising;
      still = λ c command is. by c command is (is_at (client_cmp c) line.client) refl;
      were = l.were;
      entries = l.entries;
    }
      where
        l : Answering was t
        l = lets t a

        exact : (x : ClientNo) → client_cmp line.client x ≡ Equal → line.client ≡ x
        exact x e = ap (λ (n : ℕ). record { 0 = n }) (exact_unsigned line.client.0 x.0 e)

        unanswered : list_any (is_answer_to line.client.0) t.answers ≡ false
        unanswered = of (list_any (is_answer_to line.client.0) t.answers) refl
          where
            of : (b : Bool) → list_any (is_answer_to line.client.0) t.answers ≡ b → b ≡ false
            of false is = refl
            of true is = let w : WasOpen commands (record { 0 = line.client.0 }) = a.were line.client.0 is in absurd (cc (sym free ∙ w.there))

        by : (c : ClientNo) (command : OpenCommand) → lookup (is_at (client_cmp c)) (insert_entry client_cmp t.commands line.client (fresh_command line)) ≡ Some command → (b : Bool) → is_at (client_cmp c) line.client ≡ b → IsOpenStill was t.answers c command
        by c command is true near = subst (λ (x : ClientNo). IsOpenStill was t.answers x command) (sym (client_exact c line.client near)) (record {
          old = fresh_command line;
          there = there;
          line = ap (λ (k : OpenCommand). k.line) (some_same (sym (lookup_put client_cmp line.client (fresh_command line) (tied_itself nat_cmp_total line.client.0) t.commands)
              ∙ subst (λ (x : ClientNo). lookup (is_at (client_cmp x)) (insert_entry client_cmp t.commands line.client (fresh_command line)) ≡ Some command) (client_exact c line.client near) is));
          unanswered = unanswered;
        })
        by c command is false far = l.still c command (sym (lookup_put_apart client_cmp line.client (fresh_command line) exact (is_at (client_cmp c)) far t.commands) ∙ is)

-- ---- the whole step

pub step_answers : (node : NodeValue) (event : Event) (free : ℕ) → IsRising client_cmp node.commands → IsFree event node.commands → Answering (with_event event node.commands) (trace_of (step_work node event free))
step_answers node event free rising fits =
    step_traced (Answering node.commands) (Answering (with_event event node.commands)) (answering_kept node.commands) (answering_kept (with_event event node.commands)) node event free
    (record {
      lets = lets node.commands (with_event event node.commands) (same_with node.commands event fits);
      comes = λ t line is a. subst (λ (e : Event). Answering (with_event e node.commands) (with_line line t)) (sym is)
          (comes node.commands (with_event (command_of line) node.commands) (same_with node.commands (command_of line) (subst (λ (e : Event). IsFree e node.commands) is fits))
          line (subst (λ (e : Event). IsFree e node.commands) is fits) (lookup_put client_cmp line.client (fresh_command line) (tied_itself nat_cmp_total line.client.0) node.commands) t a);
      learns = λ t peer tid label member number issuer op is a. record { rising = a.rising; still = a.still; were = a.were; entries = a.entries };
      takes = λ t peer tid label member number issuer op is a. (let l : Answering (with_event event node.commands) t = lets node.commands (with_event event node.commands) (same_with node.commands event fits) t a in
          record { rising = l.rising; still = l.still; were = l.were; entries = l.entries });
    })
    (record { rising = rising; still = λ client command is. record { old = command; there = is; line = refl; unanswered = refl }; were = λ k is. absurd (cc is); entries = tt })
