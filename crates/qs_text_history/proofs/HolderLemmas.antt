-- Facts about whom the words of busy answers name.
use Rattle.std.proofs.Common.{◌≡◌, ℕ, Bool, true, false, cond, List, [], ◌∷◌, Option, Some, None, refl, sym, ◌∙◌, ap, subst}
use Rattle.std.specs.Prelude.{codes, decimal}
use Rattle.qs_base.specs.Order.{same_bytes}
use Rattle.qs_base.specs.declared.identifiers.Outcome.TheVariants as outcomes
use Rattle.qs_base.specs.declared.identifiers.Tid.{Tid}
use Rattle.qs_book_journal.specs.declared.entry.Act.{Act}
use Rattle.qs_book_journal.specs.declared.entry.Act.TheVariants as acts
use Rattle.qs_book_journal.specs.declared.entry.Entry.{Entry}
use Rattle.qs_ops.specs.declared.answer.Answer.{Answer}
use Rattle.qs_ops.specs.declared.answer.Answer.TheVariants as answers
use Rattle.qs_text_script.specs.Answers.{tid_text, holder_text}
use Rattle.qs_text_history.specs.Begun.{or_else, begun_as, first_begun, is_begun}
use Rattle.qs_text_history.specs.Inner.Begun.{BegunValue, unbegun, holder_in, holder_by, tid_in}
use Rattle.qs_text_history.specs.Inner.Reader.{Knows}
use Rattle.qs_text_history.specs.Reading.{NamesHolder, IsNamedAnswer, IsNamedAct}
use Rattle.qs_text_history.specs.Spelled.{IsTid, IsAnswer, IsAct, IsEntry, Each}
use Rattle.qs_text_history.specs.Words.{is_word}
use Rattle.qs_text_history.specs.Inner.Words.{tid_of}
use Rattle.qs_text_history.proofs.ActLemmas.{HeldIn}
use Rattle.qs_text_history.proofs.AnswerLemmas.{Held, answer_tokens}
use Rattle.qs_text_history.proofs.IdentifierLemmas.{tid_read, tid_back, tid_word}
use Rattle.qs_text_history.proofs.TextLemmas.{shown, shown_in, act_tokens}

-- the function tells whom a word names behind these entries
pub record Names (holder : List ℕ → Option Tid) (entries : List Entry) : Type 0 where
  pub by : (name : List ℕ) → holder name ≡ holder_in (λ label. first_begun label entries) (λ tid. is_begun tid entries) name

unbegun_same : (f g : Tid → Bool) → ((tid : Tid) → f tid ≡ g tid) → (tid : Option Tid) → unbegun f tid ≡ unbegun g tid
unbegun_same f g same None = refl
unbegun_same f g same (Some tid) = rw (same tid) refl

pub names_known : (begun : BegunValue) (entries : List Entry) → Knows begun entries → Names (holder_by begun) entries
unfolding holder_by
names_known begun entries knows = record {
  by = λ name. rw (knows.labels name, unbegun_same (tid_in begun) (λ tid. is_begun tid entries) knows.tids (tid_of name)) refl;
}

pub names_self : (entries : List Entry) → Names (holder_in (λ label. first_begun label entries) (λ tid. is_begun tid entries)) entries
names_self entries = record { by = λ name. refl }

-- ---- named, so held

holder_held : (holder : List ℕ → Option Tid) (entries : List Entry) → Names holder entries → (label : Option (List ℕ)) (tid : Tid) → IsTid tid → NamesHolder entries tid label → holder (holder_text label tid) ≡ Some tid
holder_held holder entries names (Some label) tid is named = names.by label ∙ rw (named.1) refl
holder_held holder entries names None tid is named = names.by (tid_text tid) ∙ rw (named.0, tid_read tid is, named.1) refl

answer_held : (holder : List ℕ → Option Tid) (entries : List Entry) → Names holder entries → (label : Option (List ℕ)) (answer : Answer) → IsAnswer answer → IsNamedAnswer entries label answer → Held holder (shown label answer) answer
answer_held holder entries names label answers.Done is named = tt
answer_held holder entries names label (answers.Value text) is named = tt
answer_held holder entries names label (answers.Left ticks) is named = tt
answer_held holder entries names label (answers.Names list) is named = tt
answer_held holder entries names label (answers.Notes list) is named = tt
answer_held holder entries names label (answers.Busy tid) is named = holder_held holder entries names label tid is named
answer_held holder entries names label answers.Absent is named = tt
answer_held holder entries names label answers.TooMany is named = tt
answer_held holder entries names label answers.TooLong is named = tt
answer_held holder entries names label answers.Committed is named = tt
answer_held holder entries names label (answers.Aborted cause) is named = tt
answer_held holder entries names label answers.Ended is named = tt
answer_held holder entries names label answers.NotYours is named = tt
answer_held holder entries names label answers.NotBegun is named = tt
answer_held holder entries names label (answers.LogFull need room) is named = tt

pub act_held : (holder : List ℕ → Option Tid) (entries : List Entry) → Names holder entries → (label : Option (List ℕ)) (act : Act) → IsAct act → IsNamedAct entries label act → HeldIn holder (shown_in label act) act
act_held holder entries names label (acts.Begin tid name client) is named = tt
act_held holder entries names label (acts.Issue tid issuer member number op) is named = tt
act_held holder entries names label (acts.Serve tid member from number reply) is named = tt
act_held holder entries names label (acts.Ask tid) is named = tt
act_held holder entries names label (acts.Vote tid member vote covers) is named = tt
act_held holder entries names label (acts.Counted tid peer up_to) is named = tt
act_held holder entries names label (acts.Decide tid outcome cause) is named = tt
act_held holder entries names label (acts.Ending tid member) is named = tt
act_held holder entries names label (acts.Learn tid member outcome) is named = tt
act_held holder entries names label (acts.Answer client line answer) is named = answer_held holder entries names label answer is.1.1 named
act_held holder entries names label (acts.Loan tid client) is named = tt
act_held holder entries names label (acts.Yield tid client) is named = tt
act_held holder entries names label acts.Tick is named = tt
act_held holder entries names label (acts.Crash cause) is named = tt
act_held holder entries names label (acts.Restart inc pend done) is named = tt

holder_word : (entries : List Entry) (label : Option (List ℕ)) (tid : Tid) → IsTid tid → NamesHolder entries tid label → is_word (holder_text label tid) ≡ true
holder_word entries (Some label) tid is named = named.0
holder_word entries None tid is named = tid_word tid is

answer_word : (entries : List Entry) (label : Option (List ℕ)) (answer : Answer) → IsAnswer answer → IsNamedAnswer entries label answer → is_word (shown label answer) ≡ true
answer_word entries label answers.Done is named = refl
answer_word entries label (answers.Value text) is named = refl
answer_word entries label (answers.Left ticks) is named = refl
answer_word entries label (answers.Names list) is named = refl
answer_word entries label (answers.Notes list) is named = refl
answer_word entries label (answers.Busy tid) is named = holder_word entries label tid is named
answer_word entries label answers.Absent is named = refl
answer_word entries label answers.TooMany is named = refl
answer_word entries label answers.TooLong is named = refl
answer_word entries label answers.Committed is named = refl
answer_word entries label (answers.Aborted cause) is named = refl
answer_word entries label answers.Ended is named = refl
answer_word entries label answers.NotYours is named = refl
answer_word entries label answers.NotBegun is named = refl
answer_word entries label (answers.LogFull need room) is named = refl

pub act_word : (entries : List Entry) (label : Option (List ℕ)) (act : Act) → IsAct act → IsNamedAct entries label act → is_word (shown_in label act) ≡ true
act_word entries label (acts.Begin tid name client) is named = refl
act_word entries label (acts.Issue tid issuer member number op) is named = refl
act_word entries label (acts.Serve tid member from number reply) is named = refl
act_word entries label (acts.Ask tid) is named = refl
act_word entries label (acts.Vote tid member vote covers) is named = refl
act_word entries label (acts.Counted tid peer up_to) is named = refl
act_word entries label (acts.Decide tid outcome cause) is named = refl
act_word entries label (acts.Ending tid member) is named = refl
act_word entries label (acts.Learn tid member outcome) is named = refl
act_word entries label (acts.Answer client line answer) is named = answer_word entries label answer is.1.1 named
act_word entries label (acts.Loan tid client) is named = refl
act_word entries label (acts.Yield tid client) is named = refl
act_word entries label acts.Tick is named = refl
act_word entries label (acts.Crash cause) is named = refl
act_word entries label (acts.Restart inc pend done) is named = refl

-- ---- held, so named

-- how the name is a label or an identifier
pub record Shows (entries : List Entry) (name : List ℕ) (tid : Tid) : Type 0 where
  pub label : Option (List ℕ)
  pub named : NamesHolder entries tid label
  pub is : name ≡ holder_text label tid

by_tid : (entries : List Entry) (name : List ℕ) (tid found : Tid) (b : Bool) → is_begun found entries ≡ b → first_begun name entries ≡ None → tid_of name ≡ Some found → cond b None (Some found) ≡ Some tid → Shows entries name tid
by_tid entries name tid found true t none reads e = cc
by_tid entries name tid found false t none reads e =
    let same : found ≡ tid = cc in
    let is : name ≡ tid_text tid = (tid_back name found reads).1 ∙ ap tid_text same in
    record {
      label = None;
      named = (subst (λ n. first_begun n entries ≡ None) is none, subst (λ f. is_begun f entries ≡ false) same t);
      is = is;
    }

pub holder_shows : (holder : List ℕ → Option Tid) (entries : List Entry) → Names holder entries → (name : List ℕ) (tid : Tid) → is_word name ≡ true → holder name ≡ Some tid → Shows entries name tid
holder_shows holder entries names name tid good e = by (first_begun name entries) refl (sym (names.by name) ∙ e)
  where
    by_word : (found : Option Tid) → tid_of name ≡ found → first_begun name entries ≡ None → unbegun (λ t. is_begun t entries) found ≡ Some tid → Shows entries name tid
    by_word None reads none h = cc
    by_word (Some found) reads none h = by_tid entries name tid found (is_begun found entries) refl none reads h

    by : (first : Option Tid) → first_begun name entries ≡ first → or_else first (unbegun (λ t. is_begun t entries) (tid_of name)) ≡ Some tid → Shows entries name tid
    by (Some found) is h = record { label = Some name; named = (good, is ∙ h); is = refl }
    by None is h = by_word (tid_of name) refl is h

-- ---- holders have identifiers

act_tid : (act : Act) (label : List ℕ) (tid : Tid) → IsAct act → begun_as label act ≡ Some tid → IsTid tid
act_tid (acts.Begin found other client) label tid is e = by (same_bytes other label) e
  where
    by : (b : Bool) → cond b (Some found) None ≡ Some tid → IsTid tid
    by true h = let same : found ≡ tid = cc in subst IsTid same is.0
    by false h = cc
act_tid (acts.Issue t issuer member number op) label tid is e = cc
act_tid (acts.Serve t member from number reply) label tid is e = cc
act_tid (acts.Ask t) label tid is e = cc
act_tid (acts.Vote t member vote covers) label tid is e = cc
act_tid (acts.Counted t peer up_to) label tid is e = cc
act_tid (acts.Decide t outcome cause) label tid is e = cc
act_tid (acts.Ending t member) label tid is e = cc
act_tid (acts.Learn t member outcome) label tid is e = cc
act_tid (acts.Answer client line answer) label tid is e = cc
act_tid (acts.Loan t client) label tid is e = cc
act_tid (acts.Yield t client) label tid is e = cc
act_tid acts.Tick label tid is e = cc
act_tid (acts.Crash cause) label tid is e = cc
act_tid (acts.Restart inc pend done) label tid is e = cc

first_step : (label : List ℕ) (entry : Entry) (entries : List Entry) (tid : Tid) (found : Option Tid) → IsEntry entry → (first_begun label entries ≡ Some tid → IsTid tid)
    → begun_as label entry.act ≡ found → or_else found (first_begun label entries) ≡ Some tid → IsTid tid
first_step label entry entries tid (Some found) is rest e h = act_tid entry.act label tid is.act (e ∙ h)
first_step label entry entries tid None is rest e h = rest h

first_tid : (label : List ℕ) (entries : List Entry) (tid : Tid) → Each IsEntry entries → first_begun label entries ≡ Some tid → IsTid tid
first_tid label [] tid each e = cc
first_tid label (entry ∷ entries) tid each e = first_step label entry entries tid (begun_as label entry.act) each.0 (first_tid label entries tid each.1) refl e

shown_tid : (entries : List Entry) (name : List ℕ) (tid : Tid) → Each IsEntry entries → holder_in (λ label. first_begun label entries) (λ t. is_begun t entries) name ≡ Some tid → IsTid tid
shown_tid entries name tid each e = by (first_begun name entries) refl e
  where
    begun_by : (b : Bool) (found : Tid) → tid_of name ≡ Some found → cond b None (Some found) ≡ Some tid → IsTid tid
    begun_by true found reads h = cc
    begun_by false found reads h = let same : found ≡ tid = cc in subst IsTid same (tid_back name found reads).0

    by_word : (found : Option Tid) → tid_of name ≡ found → unbegun (λ t. is_begun t entries) found ≡ Some tid → IsTid tid
    by_word None reads h = cc
    by_word (Some found) reads h = begun_by (is_begun found entries) found reads h

    by : (first : Option Tid) → first_begun name entries ≡ first → or_else first (unbegun (λ t. is_begun t entries) (tid_of name)) ≡ Some tid → IsTid tid
    by (Some found) is h = first_tid name entries tid each (is ∙ h)
    by None is h = by_word (tid_of name) refl h

pub holder_tid : (holder : List ℕ → Option Tid) (entries : List Entry) → Names holder entries → Each IsEntry entries → (name : List ℕ) (tid : Tid) → holder name ≡ Some tid → IsTid tid
holder_tid holder entries names each name tid e = shown_tid entries name tid each (sym (names.by name) ∙ e)

-- ---- the name of an act as a label

pub record Labelled (entries : List Entry) (name : List ℕ) (act : Act) : Type 0 where
  pub label : Option (List ℕ)
  pub named : IsNamedAct entries label act
  pub same : act_tokens name act ≡ act_tokens (shown_in label act) act

pub record LabelledAnswer (entries : List Entry) (name : List ℕ) (answer : Answer) : Type 0 where
  pub label : Option (List ℕ)
  pub named : IsNamedAnswer entries label answer
  pub same : answer_tokens name answer ≡ answer_tokens (shown label answer) answer

answer_label : (holder : List ℕ → Option Tid) (entries : List Entry) → Names holder entries → (name : List ℕ) (answer : Answer) → is_word name ≡ true → Held holder name answer → LabelledAnswer entries name answer
answer_label holder entries names name answers.Done good held = record { label = None; named = tt; same = refl }
answer_label holder entries names name (answers.Value text) good held = record { label = None; named = tt; same = refl }
answer_label holder entries names name (answers.Left ticks) good held = record { label = None; named = tt; same = refl }
answer_label holder entries names name (answers.Names list) good held = record { label = None; named = tt; same = refl }
answer_label holder entries names name (answers.Notes list) good held = record { label = None; named = tt; same = refl }
answer_label holder entries names name (answers.Busy tid) good held =
    let s = holder_shows holder entries names name tid good held in
    record { label = s.label; named = s.named; same = ap (λ w. codes "busy" ∷ w ∷ []) s.is }
answer_label holder entries names name answers.Absent good held = record { label = None; named = tt; same = refl }
answer_label holder entries names name answers.TooMany good held = record { label = None; named = tt; same = refl }
answer_label holder entries names name answers.TooLong good held = record { label = None; named = tt; same = refl }
answer_label holder entries names name answers.Committed good held = record { label = None; named = tt; same = refl }
answer_label holder entries names name (answers.Aborted cause) good held = record { label = None; named = tt; same = refl }
answer_label holder entries names name answers.Ended good held = record { label = None; named = tt; same = refl }
answer_label holder entries names name answers.NotYours good held = record { label = None; named = tt; same = refl }
answer_label holder entries names name answers.NotBegun good held = record { label = None; named = tt; same = refl }
answer_label holder entries names name (answers.LogFull need room) good held = record { label = None; named = tt; same = refl }

pub act_label : (holder : List ℕ → Option Tid) (entries : List Entry) → Names holder entries → (name : List ℕ) (act : Act) → is_word name ≡ true → HeldIn holder name act → Labelled entries name act
act_label holder entries names name (acts.Begin tid label client) good held = record { label = None; named = tt; same = refl }
act_label holder entries names name (acts.Issue tid issuer member number op) good held = record { label = None; named = tt; same = refl }
act_label holder entries names name (acts.Serve tid member from number reply) good held = record { label = None; named = tt; same = refl }
act_label holder entries names name (acts.Ask tid) good held = record { label = None; named = tt; same = refl }
act_label holder entries names name (acts.Vote tid member vote covers) good held = record { label = None; named = tt; same = refl }
act_label holder entries names name (acts.Counted tid peer up_to) good held = record { label = None; named = tt; same = refl }
act_label holder entries names name (acts.Decide tid outcomes.Commit cause) good held = record { label = None; named = tt; same = refl }
act_label holder entries names name (acts.Decide tid outcomes.Abort cause) good held = record { label = None; named = tt; same = refl }
act_label holder entries names name (acts.Ending tid member) good held = record { label = None; named = tt; same = refl }
act_label holder entries names name (acts.Learn tid member outcome) good held = record { label = None; named = tt; same = refl }
act_label holder entries names name (acts.Answer client line answer) good held =
    let l = answer_label holder entries names name answer good held in
    record { label = l.label; named = l.named; same = ap (λ ws. codes "answer" ∷ decimal client.0 ∷ decimal line ∷ ws) l.same }
act_label holder entries names name (acts.Loan tid client) good held = record { label = None; named = tt; same = refl }
act_label holder entries names name (acts.Yield tid client) good held = record { label = None; named = tt; same = refl }
act_label holder entries names name acts.Tick good held = record { label = None; named = tt; same = refl }
act_label holder entries names name (acts.Crash cause) good held = record { label = None; named = tt; same = refl }
act_label holder entries names name (acts.Restart inc pend done) good held = record { label = None; named = tt; same = refl }
