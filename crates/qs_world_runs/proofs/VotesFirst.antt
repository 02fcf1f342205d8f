-- A server votes only in a pass that is not put off: so no vote on a transaction comes behind what the step asked or served of it.
use Rattle.qs_world_runs.proofs.Words.{◌≡◌, ℕ, ◌&&◌, ◌||◌, not, Bool, true, false, List, [], ◌∷◌, ◌++◌, Option, Some, refl, sym, ap, subst, ◌∙◌, insert_entry, is_at, list_any, lookup, unwrap_or, list_any-append, same_tid-self, same_tid-true, tid_exact, or-true, same_tid, tid_cmp, Tid, Act, at_exact, tid_itself, is_put_off, no_doings, step_work, Event, Doings, Deeds, IsKeptSo, IsStill, deeds_of, and_parts}
use Rattle.qs_book_journal.specs.declared.entry.Act.TheVariants as acts
use Rattle.qs_book_laws.proofs.Maps.{lookup_put, lookup_put_apart}
use Rattle.qs_node_step.specs.State.{NodeValue}
use Rattle.qs_world_runs.specs.Deeds.{doings_in}
use Rattle.qs_world_runs.specs.Firsts.{StepsVoteFirst, is_asked_or_served, is_vote_of, votes_first}
use Rattle.qs_world_runs.proofs.TraceStages.{step_done}
use Rattle.qs_base_lemmas.proofs.Tests.{or_assoc}

or_none : (a b : Bool) → (a || false) ≡ a
or_none true b = refl
or_none false b = refl

served_off : (o : Doings) → is_put_off (record o { served = true }) ≡ true
served_off o = or-true o.asked

module _ (tid : Tid) where
  -- one more act, that is no vote behind one of these
  one_more : (done : List Act) (act : Act) (came : Bool) → votes_first tid came done ≡ true → (is_vote_of tid act ≡ true → (came || list_any (is_asked_or_served tid) done) ≡ false) → votes_first tid came (done ++ act ∷ []) ≡ true
  one_more [] act came first fits = by (is_vote_of tid act) came (λ is. sym (or_none came true) ∙ fits is)
    where
      by : (v c : Bool) → (v ≡ true → c ≡ false) → (not (v && c) && true) ≡ true
      by false c f = refl
      by true false f = refl
      by true true f = absurd (let off : true ≡ false = f refl in cc off)
  one_more (x ∷ done) act came first fits = let p = and_parts (not (is_vote_of tid x && came)) _ first in
      rw (p.0) (one_more done act (came || is_asked_or_served tid x) p.1 (λ is. or_assoc came (is_asked_or_served tid x) (list_any (is_asked_or_served tid) done) ∙ fits is))

  record So (d : Deeds) : Type 0 where
    pub first : votes_first tid false d.trace.entries ≡ true
    pub none : is_put_off (doings_in tid d) ≡ false → list_any (is_asked_or_served tid) d.trace.entries ≡ false

  module _ (d e : Deeds) where
    -- an act that is neither; what was noted puts a pass off as before, or does now
    still_so : (act : Act) → e.trace.entries ≡ d.trace.entries ++ act ∷ [] → (is_put_off (doings_in tid e) ≡ false → is_put_off (doings_in tid d) ≡ false) → is_vote_of tid act ≡ false → is_asked_or_served tid act ≡ false → So d → So e
    still_so act p q vote off s = record {
      first = ap (votes_first tid false) p ∙ one_more d.trace.entries act false s.first (λ is. absurd (cc (vote, is)));
      none = λ open_now. ap (list_any (is_asked_or_served tid)) p ∙ (list_any-append (is_asked_or_served tid) d.trace.entries (act ∷ []) ∙ rw (s.none (q open_now), off) refl);
    }

    same_so : e.trace.entries ≡ d.trace.entries → (is_put_off (doings_in tid e) ≡ false → is_put_off (doings_in tid d) ≡ false) → So d → So e
    same_so p q s = record { first = ap (votes_first tid false) p ∙ s.first; none = λ open_now. ap (list_any (is_asked_or_served tid)) p ∙ s.none (q open_now) }

    -- a vote, in a pass that is not put off
    vote_so : (t : Tid) (act : Act) → e.trace.entries ≡ d.trace.entries ++ act ∷ [] → (is_put_off (doings_in tid e) ≡ false → is_put_off (doings_in tid d) ≡ false) → is_put_off (doings_in t d) ≡ false → is_vote_of tid act ≡ same_tid t tid → is_asked_or_served tid act ≡ false → So d → So e
    vote_so t act p q open_then vote off s = record {
      first = ap (votes_first tid false) p ∙ one_more d.trace.entries act false s.first (λ is. s.none (subst (λ (x : Tid). is_put_off (doings_in x d) ≡ false) (same_tid-true t tid (sym vote ∙ is)) open_then));
      none = λ open_now. ap (list_any (is_asked_or_served tid)) p ∙ (list_any-append (is_asked_or_served tid) d.trace.entries (act ∷ []) ∙ rw (s.none (q open_now), off) refl);
    }

  near_so : (t : Tid) → same_tid t tid ≡ true → is_at (tid_cmp tid) t ≡ true
  near_so t same = subst (λ (x : Tid). is_at (tid_cmp tid) x ≡ true) (sym (same_tid-true t tid same)) (rw (tid_itself tid) refl)

  -- what was noted of it, after one more note
  noted_is : (d : Deeds) (t : Tid) (f : Doings → Doings) → (is_at (tid_cmp tid) t ≡ true → is_put_off (f (doings_in t d)) ≡ false → is_put_off (doings_in t d) ≡ false)
      → is_put_off (unwrap_or (lookup (is_at (tid_cmp tid)) (insert_entry tid_cmp d.doings t (f (doings_in t d)))) no_doings) ≡ false → is_put_off (doings_in tid d) ≡ false
  noted_is d t f stays open_now = by (is_at (tid_cmp tid) t) refl
    where
      by : (b : Bool) → is_at (tid_cmp tid) t ≡ b → is_put_off (doings_in tid d) ≡ false
      by true near = subst (λ (x : Tid). is_put_off (doings_in x d) ≡ false) (sym (at_exact tid t near)) (stays near
          (subst (λ (o : Option Doings). is_put_off (unwrap_or o no_doings) ≡ false)
          (subst (λ (x : Tid). lookup (is_at (tid_cmp x)) (insert_entry tid_cmp d.doings t (f (doings_in t d))) ≡ Some (f (doings_in t d))) (sym (at_exact tid t near)) (lookup_put tid_cmp t (f (doings_in t d)) (tid_itself t) d.doings)) open_now))
      by false far = subst (λ (o : Option Doings). is_put_off (unwrap_or o no_doings) ≡ false) (lookup_put_apart tid_cmp t (f (doings_in t d)) (λ x. tid_exact t x) (is_at (tid_cmp tid)) far d.doings) open_now

  -- it puts a pass off, of the transaction of which it is
  puts_off : (d : Deeds) (t : Tid) (f : Doings → Doings) → ((o : Doings) → is_put_off (f o) ≡ true) → (act : Act) → is_vote_of tid act ≡ false → is_asked_or_served tid act ≡ same_tid t tid → (entries : List Act) → entries ≡ d.trace.entries ++ act ∷ []
      → is_put_off (unwrap_or (lookup (is_at (tid_cmp tid)) (insert_entry tid_cmp d.doings t (f (doings_in t d)))) no_doings) ≡ false → So d → list_any (is_asked_or_served tid) entries ≡ false
  puts_off d t f off act vote noted entries p open_now s = by (same_tid t tid) refl
    where
      by : (b : Bool) → same_tid t tid ≡ b → list_any (is_asked_or_served tid) entries ≡ false
      by true near = absurd (let near_at : is_at (tid_cmp tid) t ≡ true = near_so t near in let is : is_put_off (f (doings_in t d)) ≡ false = subst (λ (o : Option Doings). is_put_off (unwrap_or o no_doings) ≡ false)
          (subst (λ (x : Tid). lookup (is_at (tid_cmp x)) (insert_entry tid_cmp d.doings t (f (doings_in t d))) ≡ Some (f (doings_in t d))) (sym (at_exact tid t near_at)) (lookup_put tid_cmp t (f (doings_in t d)) (tid_itself t) d.doings)) open_now in
          let then_off : is_put_off (f (doings_in t d)) ≡ true = off (doings_in t d) in cc (is, then_off))
      by false far = ap (list_any (is_asked_or_served tid)) p ∙ (list_any-append (is_asked_or_served tid) d.trace.entries (act ∷ [])
          ∙ rw (s.none (noted_is d t f (λ near. absurd (far_at near)) open_now), noted, far) refl)
        where
          far_at : is_at (tid_cmp tid) t ≡ true → ⊥
          far_at near = let e : tid ≡ t = at_exact tid t near in let self : same_tid t t ≡ true = same_tid-self t in let near_tid : same_tid t tid ≡ true = subst (λ (x : Tid). same_tid t x ≡ true) (sym e) self in cc (far, near_tid)

  puts_so : (d e : Deeds) (t : Tid) (f : Doings → Doings) (act : Act) → ((o : Doings) → is_put_off (f o) ≡ true) → e.trace.entries ≡ d.trace.entries ++ act ∷ [] → e.doings ≡ insert_entry tid_cmp d.doings t (f (doings_in t d))
      → is_vote_of tid act ≡ false → is_asked_or_served tid act ≡ same_tid t tid → So d → So e
  puts_so d e t f act off p q vote noted s = record {
    first = ap (votes_first tid false) p ∙ one_more d.trace.entries act false s.first (λ is. absurd (cc (vote, is)));
    none = λ open_now. puts_off d t f off act vote noted e.trace.entries p (subst (λ (ds : List (Tid × Doings)). is_put_off (unwrap_or (lookup (is_at (tid_cmp tid)) ds) no_doings) ≡ false) q open_now) s;
  }

  plain : (act : Act) → IsStill act → (is_vote_of tid act ≡ false) × (is_asked_or_served tid act ≡ false)
  plain (acts.Begin t label client) still = absurd still
  plain (acts.Issue t issuer member number op) still = absurd still
  plain (acts.Serve t member from number reply) still = absurd still
  plain (acts.Ask t) still = absurd still
  plain (acts.Vote t member ballot covers) still = absurd still
  plain (acts.Counted t peer up_to) still = (refl, refl)
  plain (acts.Decide t outcome cause) still = absurd still
  plain (acts.Ending t member) still = (refl, refl)
  plain (acts.Learn t member outcome) still = (refl, refl)
  plain (acts.Answer client line said) still = absurd still
  plain (acts.Loan t client) still = absurd still
  plain (acts.Yield t client) still = absurd still
  plain acts.Tick still = (refl, refl)
  plain (acts.Crash cause) still = absurd still
  plain (acts.Restart inc pend done) still = absurd still

  so_kept : IsKeptSo So
  so_kept = record {
    enters = λ d act still so. let p = plain act still in still_so d _ act refl (λ is. is) p.0 p.1 so;
    sends = λ d to message asks so. same_so d _ refl (λ is. is) so;
    closes = λ d client command said there so. still_so d _ (acts.Answer client command.line.line said) refl (λ is. is) refl refl so;
    begins = λ d line t there is so. still_so (record { trace = record d.trace { entries = d.trace.entries ++ acts.Begin t line.label line.client ∷ [] }; doings = d.doings }) _ _ refl (λ is. is) refl refl
        (still_so d (record { trace = record d.trace { entries = d.trace.entries ++ acts.Begin t line.label line.client ∷ [] }; doings = d.doings }) (acts.Begin t line.label line.client) refl (λ is. is) refl refl so);
    refuses = λ d line so. same_so d _ refl (λ is. is) so;
    marks = λ d client issued so. same_so d _ refl (λ is. is) so;
    issues = λ d t issuer member number op so. still_so d _ _ refl (λ is. is) refl refl so;
    asks = λ d t label issuer member number op away so. still_so d _ _ refl (λ is. is) refl refl so;
    queues = λ d server delivery own so. same_so d _ refl (λ is. is) so;
    leaves = λ d server so. same_so d _ refl (λ is. is) so;
    forgets = λ d t so. same_so d _ refl (λ is. is) so;
    stales = λ d peer so. same_so d _ refl (λ is. is) so;
    serves = λ d server delivery reply next so. puts_so d _ delivery.tid (λ doings. record doings { served = true }) _ served_off refl refl refl refl so;
    lends = λ d t client served so. still_so d _ (acts.Loan t client) refl (λ is. is) refl refl so;
    commit_asked = λ d t so. puts_so d _ t (λ doings. record doings { asked = true }) (acts.Ask t) (λ o. refl) refl refl refl refl so;
    votes = λ d t member ballot covers off so. vote_so d _ t (acts.Vote t member ballot covers) refl (noted_is d t (λ doings. record doings { voted = true }) (λ near is. is)) off refl refl so;
    prepares = λ d t so. same_so d _ refl (noted_is d t (λ doings. record doings { prepared = true }) (λ near is. is)) so;
    yields = λ d t client so. still_so d _ (acts.Yield t client) refl (noted_is d t (λ doings. record doings { yielded = true }) (λ near is. is)) refl refl so;
    decides = λ d t outcome cause quiet so. still_so d _ (acts.Decide t outcome cause) refl (λ is. is) refl refl so;
  }

  -- a whole step
  votes_so : (node : NodeValue) (event : Event) (free : ℕ) → So (deeds_of (step_work node event free))
  votes_so node event free = step_done So So so_kept so_kept node event free
      (record { lets = λ d so. so; comes = λ d line is so. same_so d _ refl (λ is. is) so; learns = λ d peer t label member number issuer op is so. same_so d _ refl (λ is. is) so; takes = λ d peer t label member number issuer op is so. same_so d _ refl (λ is. is) so })
      (record { first = refl; none = λ open_now. refl })

pub steps_vote_first : StepsVoteFirst
steps_vote_first tid node event free = (votes_so tid node event free).first
