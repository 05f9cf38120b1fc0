-- Who took a copy, and how many its send counts, seen from before its loan.
use Rattle.std.proofs.Common.{◌≡◌, ℕ, suc, ◌≤◌, List, [], ◌∷◌, ◌++◌, drop, length, sym, ap, subst, ◌∙◌, inl, inr}
use Rattle.std.proofs.Common.{⊎_elim, Result, Ok, Err}
use Rattle.std.specs.Prelude.{IfOk}
use Rattle.iox2_machine.specs.declared.errors.SendError.{SendError}
use Rattle.iox2_machine.specs.declared.service_config.ServiceConfig.{ServiceConfig}
use Rattle.iox2_domain.specs.Kept.{Kept}
use Rattle.iox2_pubsub.specs.AllSubscribers.{AreConnected}
use Rattle.iox2_pubsub.specs.Counts.{Counts, HasMissed, HasTaken, HaveTaken}
use Rattle.iox2_pubsub.specs.Live.{HasItsBuffer, IsConnected, WaitingStays, payloads_from, waiting}
use Rattle.iox2_pubsub.specs.declared.send_outcome.SendOutcome.{SendOutcome}
use Rattle.iox2_pubsub.specs.declared.send_outcome.SendOutcome.TheVariants.{Delivered}
use Rattle.iox2_pubsub.specs.declared.subscriber.Subscriber.{Subscriber}
use Rattle.iox2_pubsub.proofs.CopiesServe.{from-since, full-since, same-count}

-- who was connected is so still
pub each-connected : {T U F G : Type 0} (old mid : Kept T U F G) (p lender : ℕ)
    → ((it : Subscriber) → IsConnected old p it → IsConnected mid lender it) → (subscribers : List Subscriber)
    → AreConnected old p subscribers
    → AreConnected mid lender subscribers
each-connected old mid p lender connections [] connected = tt
each-connected old mid p lender connections (subscriber ∷ others) connected =
    (connections subscriber connected.0, each-connected old mid p lender connections others connected.1)

module _ {T U F G : Type 0} (old mid new : Kept T U F G) (waits : WaitingStays old mid)
    (settings : mid.config ≡ old.config) (buffers : (it : Subscriber) → HasItsBuffer old it → HasItsBuffer mid it)
    (p : ℕ) (values : List T) where
  taken-since : (subscriber : Subscriber) → HasTaken mid new p values subscriber → HasTaken old new p values subscriber
  unfolding HasTaken
  taken-since subscriber taken =
      let counted : waiting mid subscriber ≡ waiting old subscriber = same-count waits subscriber in
      let same : payloads_from mid p subscriber ≡ payloads_from old p subscriber =
      from-since old mid new waits p subscriber in
      ⊎_elim
      (λ came. inl (came.0 ∙ ap (λ (before : List (List T)). before ++ values ∷ []) same, came.1 ∙ ap suc counted))
      (λ full. inr (
        sym (ap (λ (c : ServiceConfig). c.enable_safe_overflow) settings) ∙ full.0,
        full-since old mid new waits buffers p subscriber full.1,
        full.2 ∙ ap (λ (before : List (List T)). drop 1 before ++ values ∷ []) same,
        full.3 ∙ counted,
      ))
      taken

  missed-since : (subscriber : Subscriber) → HasMissed mid new p values subscriber
      → HasMissed old new p values subscriber
  unfolding HasMissed
  missed-since subscriber missed =
      let counted : waiting mid subscriber ≡ waiting old subscriber = same-count waits subscriber in
      let same : payloads_from mid p subscriber ≡ payloads_from old p subscriber =
      from-since old mid new waits p subscriber in (
        λ over. missed.0 (ap (λ (c : ServiceConfig). c.enable_safe_overflow) settings ∙ over),
        full-since old mid new waits buffers p subscriber missed.1,
        missed.2 ∙ same,
        missed.3 ∙ counted,
      )

  have-since : (subscribers : List Subscriber) (taken : ℕ) → HaveTaken mid new p values subscribers taken
      → HaveTaken old new p values subscribers taken
  have-since [] taken took = took
  have-since (subscriber ∷ others) taken took =
      ⊎_elim
      (λ it. inl (taken-since subscriber it.0, it.1, it.2, have-since others it.1 it.3))
      (λ it. inr (missed-since subscriber it.0, have-since others taken it.1))
      took

  counts-since : (subscribers : List Subscriber) (count : ℕ) → Counts mid new p values subscribers count
      → Counts old new p values subscribers count
  counts-since subscribers count counts = record {
    taken = counts.taken;
    took = have-since subscribers counts.taken counts.took;
    at_least = counts.at_least;
    exactly = λ full.
        counts.exactly (subst (λ (c : ServiceConfig). c.max_subscribers ≤ length subscribers) (sym settings) full);
  }

  pub copy-counts : (lender : ℕ) → lender ≡ p → (subscribers : List Subscriber) (result : Result SendOutcome SendError)
      → IfOk result (λ outcome. (count : ℕ) → outcome ≡ Delivered count
      → Counts mid new lender values subscribers count)
      → IfOk result (λ outcome. (count : ℕ) → outcome ≡ Delivered count → Counts old new p values subscribers count)
  copy-counts lender its subscribers (Ok outcome) counts =
      λ count is. counts-since subscribers count
      (subst (λ (i : ℕ). Counts mid new i values subscribers count) its (counts count is))
  copy-counts lender its subscribers (Err error) counts = tt
