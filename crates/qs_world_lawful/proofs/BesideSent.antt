-- What a whole step sends is so and goes between two nodes of the run, so that channels hold what is so with it.
use Rattle.qs_world_lawful.proofs.Words.{◌≡◌, ◌<◌, ◌==◌, ℕ, true, false, List, ap, sym, subst, nat_lt, slice_get_within, not, length, Channels, same_node, Entry, BookValue, IsLawful, book_after, effects_of, step_work, Event, Sending, Setting, entries_of, post_all, Parcel, InRun, IsSent, entries_so_far, Every, HoldsChannels, IsParcel, StepOn, lt-ltb}
use Rattle.qs_node_step.specs.State.{NodeValue}
use Rattle.qs_world_lawful.proofs.BesideWhole.{held_after, sent_so}
use Rattle.qs_world_lawful.proofs.LogFrames.{every_on}
use Rattle.qs_world_lawful.proofs.ParcelsKept.{channels_posted}
use Rattle.qs_world_lawful.proofs.SaidStays.{channels_stay}
use Rattle.qs_world_lawful.proofs.SameSetting.{step_same}
use Rattle.qs_world_lawful.proofs.Truths.{left_true, not_true, right_true}

-- a message that is so, from a node of the run
pub sent_parcel : (book : BookValue) (setting : Setting) (stamp size n : ℕ) → setting.node.0 ≡ n → setting.nodes ≡ size → nat_lt n size ≡ true → (s : Sending) → IsSent book setting s → IsParcel book size n s.to.0 (record { stamp = stamp; message = s.message })
sent_parcel book setting stamp size n at run within s is = record {
  between = record {
    other = subst (λ (k : ℕ). (k == s.to.0) ≡ false) at (not_true (same_node setting.node s.to) (left_true (not (same_node setting.node s.to)) (nat_lt s.to.0 setting.nodes) is.other));
    from = within;
    to = subst (λ (k : ℕ). nat_lt s.to.0 k ≡ true) run (right_true (not (same_node setting.node s.to)) (nat_lt s.to.0 setting.nodes) is.other);
  };
  goes = is.goes;
  says = is.says;
}

-- channels hold what is so once the machine went on
pub channels_on : (before : BookValue) → InRun before → (more : List Entry) → IsLawful before more → (size : ℕ) (c : Channels Parcel) → HoldsChannels before size c → HoldsChannels (book_after before more) size c
channels_on before r more = subst (λ (b : BookValue). IsLawful b more → (size : ℕ) (c : Channels Parcel) → HoldsChannels b size c → HoldsChannels (book_after b more) size c) (sym r.is)
    (λ lawful size c h. channels_stay r.opened r.history more r.coherent r.lawful lawful size c h)

module _ (stamp : ℕ) (before : BookValue) (size : ℕ) (nodes : ℕ → NodeValue) (n : ℕ) (node : NodeValue) (event : Event) (free : ℕ) (s : StepOn stamp before size nodes n node event free) where
  abbrev pub entered : List Entry
  entered = entries_of node.setting.node.0 stamp (effects_of node event free).entries

  same : entries_so_far stamp (step_work node event free) ≡ entered
  same = ap (λ (t : Setting). entries_of t.node.0 stamp (effects_of node event free).entries) (step_same node event free)

  pub lawful_on : IsLawful before entered
  lawful_on = subst (IsLawful before) same (held_after stamp before size nodes n node event free s).lawful

  -- each message that the step sends says what is so then, and goes to another node of the run
  pub sent_after : Every (IsSent (book_after before entered) node.setting) (effects_of node event free).messages
  sent_after = subst (λ (t : Setting). Every (IsSent (book_after before entered) t) (effects_of node event free).messages) (step_same node event free)
      (subst (λ (es : List Entry). Every (IsSent (book_after before es) (step_work node event free).node.setting) (effects_of node event free).messages) same (sent_so stamp before size nodes n node event free s))

  pub channels_after : length before.nodes ≡ size → (c : Channels Parcel) → HoldsChannels before size c → HoldsChannels (book_after before entered) size (post_all n stamp (effects_of node event free).messages c)
  channels_after whole c h = channels_posted (book_after before entered) size n stamp (effects_of node event free).messages c
      (every_on (IsSent (book_after before entered) node.setting) (λ (sending : Sending). IsParcel (book_after before entered) size n sending.to.0 (record { stamp = stamp; message = sending.message }))
      (sent_parcel (book_after before entered) node.setting stamp size n s.at s.run within) (effects_of node event free).messages sent_after)
      (channels_on before s.in_run entered lawful_on size c h)
    where
      within : nat_lt n size ≡ true
      within = lt-ltb n size (subst (λ (k : ℕ). n < k) whole (subst (λ (k : ℕ). k < length before.nodes) s.at (slice_get_within before.nodes node.setting.node.0 s.beside.state s.beside.there)))
