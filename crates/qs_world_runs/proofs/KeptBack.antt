-- What a node keeps back is for those of whom it knows no incarnation, as a run begins and after each thing that happens to channels; and nothing
-- waits of what the machine does not know, since it forgets nothing.
use Rattle.qs_world_runs.proofs.Words.{◌≡◌, ℕ, ◌==◌, ◌≤◌, ◌++◌, Bool, true, false, List, [], ◌∷◌, Option, Some, None, refl, sym, subst, ◌∙◌, arith, if◌then◌else◌, eqb-true, Tid, Channels, Entry, BookValue, find_transaction, book_after, effect, TransactionValue, Event, Sending, Clock, Commanded, Handed, Noticed, Queues, Source, event_of, hand_next, taken_by, next_parcel, post_all, Parcel, World, from_notice, face_of, HoldsAt, lasts_on, LastsWell, at_two}
use Rattle.qs_session_channels.specs.Channels as channel
use Rattle.qs_book_machine.specs.Lawful.{IsLawful}
use Rattle.qs_node_step.specs.State.{NodeValue}
use Rattle.qs_world.specs.Posting.{post_next}
use Rattle.qs_world_lawful.specs.Holds.{Holds}
use Rattle.qs_world_lawful.specs.Parcels.{WaitsForKnown}
use Rattle.qs_world_lawful.proofs.AsideBook.{goes_on}
use Rattle.qs_world_runs.specs.Joined.{KeepsBackUnmet}

-- ---- channels

no_peer : (k : ℕ) → k ≡ 0 → 1 ≤ k → ⊥
no_peer k is some = omega (arith, is, some)

wait_unmet : (c : Channels Parcel) (n m : ℕ) (x : Parcel) → c.peer n m ≡ 0 → KeepsBackUnmet c → KeepsBackUnmet (channel.moved (channel.Wait n m x) c)
wait_unmet c n m x unknown h = at_two (λ (p q : ℕ) (ps : List Parcel). 1 ≤ c.peer p q → ps ≡ []) c.waits n m (c.waits n m ++ x ∷ []) (λ some. absurd (no_peer (c.peer n m) unknown some)) h

post_unmet : (n stamp : ℕ) (sendings : List Sending) (c : Channels Parcel) → KeepsBackUnmet c → KeepsBackUnmet (post_all n stamp sendings c)
post_unmet n stamp [] c h = h
post_unmet n stamp (s ∷ sendings) c h = post_unmet n stamp sendings (post_next n stamp c s) (one (c.peer n s.to.0 == 0) refl)
  where
    one : (b : Bool) → (c.peer n s.to.0 == 0) ≡ b → KeepsBackUnmet (channel.moved (if b then channel.Wait n s.to.0 (record { stamp = stamp; message = s.message }) else channel.Post n s.to.0 (record { stamp = stamp; message = s.message })) c)
    one true unknown = wait_unmet c n s.to.0 (record { stamp = stamp; message = s.message }) (eqb-true (c.peer n s.to.0) 0 unknown) h
    one false known = h

notice_unmet : (c : Channels Parcel) (n m j : ℕ) → 1 ≤ c.peer n m → KeepsBackUnmet c → KeepsBackUnmet (channel.moved (channel.Notice n m j) c)
notice_unmet c n m j known h = at_two (λ (p q k : ℕ). 1 ≤ k → c.waits p q ≡ []) c.peer n m j (λ some. h n m known) h

pub taken_unmet : (world : World) (n stamp : ℕ) (source : Source) (event : Event) → event_of world n stamp source ≡ Some event → KeepsBackUnmet world.channels → KeepsBackUnmet (taken_by world n source)
taken_unmet world n stamp (Commanded k) event comes h = h
taken_unmet world n stamp Queues event comes h = h
taken_unmet world n stamp Clock event comes h = h
taken_unmet world n stamp (Handed m) event comes h = by (next_parcel world n m)
  where
    by : (o : Option Parcel) → KeepsBackUnmet (hand_next n m o world.channels)
    by None = h
    by (Some parcel) = h
taken_unmet world n stamp (Noticed m new) event comes h = notice_unmet world.channels n m new (from_notice world n stamp m new event comes).known h

pub step_unmet : (world : World) (n stamp : ℕ) (source : Source) (event : Event) → event_of world n stamp source ≡ Some event → (sendings : List Sending) → KeepsBackUnmet world.channels → KeepsBackUnmet (post_all n stamp sendings (taken_by world n source))
step_unmet world n stamp source event comes sendings h = post_unmet n stamp sendings (taken_by world n source) (taken_unmet world n stamp source event comes h)

pub meet_unmet : (c : Channels Parcel) (n m j : ℕ) → KeepsBackUnmet c → KeepsBackUnmet (channel.moved (channel.Meet n m j) c)
meet_unmet c n m j h p q = by (p == n) (q == m) refl refl
  where
    by : (a b : Bool) → (p == n) ≡ a → (q == m) ≡ b → 1 ≤ (if a then (if b then j else c.peer p q) else c.peer p q) → (if a then (if b then [] else c.waits p q) else c.waits p q) ≡ []
    by true true near too some = refl
    by true false near far some = h p q some
    by false b far too some = h p q some

pub rise_unmet : (c : Channels Parcel) (n i : ℕ) → KeepsBackUnmet c → KeepsBackUnmet (channel.moved (channel.Restart n i) c)
rise_unmet c n i h p q = by (p == n)
  where
    by : (a : Bool) → 1 ≤ (if a then (λ (m : ℕ). 0) else c.peer p) q → (if a then (λ (m : ℕ). []) else c.waits p) q ≡ []
    by true some = refl
    by false some = h p q some

-- ---- the machine knows on what it knew

pub none_before : (entries : List Entry) (book : BookValue) → LastsWell book → IsLawful book entries → (tid : Tid) → find_transaction (book_after book entries) tid ≡ None → find_transaction book tid ≡ None
none_before [] book w lawful tid none = none
none_before (entry ∷ entries) book w lawful tid none = by (find_transaction book tid) refl (none_before entries (effect book entry) (lasts_on book entry w lawful.0) lawful.1 tid none)
  where
    by : (o : Option TransactionValue) → find_transaction book tid ≡ o → find_transaction (effect book entry) tid ≡ None → o ≡ None
    by None is gone = refl
    by (Some tx) is gone = absurd (cc (sym gone ∙ (goes_on book entry w lawful.0 tid tx is).1))

-- of what the machine does not know nothing waits at a node that it holds
pub nothing_waits : (stamp : ℕ) (book : BookValue) (node : NodeValue) → Holds stamp book node → WaitsForKnown book node
nothing_waits stamp book node h tid server none = (subst (λ (o : Option TransactionValue). HoldsAt node.setting.node node.setting.inc tid o (face_of node tid)) none (h.at tid)).waiting server
