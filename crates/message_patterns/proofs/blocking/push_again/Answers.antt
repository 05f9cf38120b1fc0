use Rattle.std.proofs.Common.{◌≡◌, ℕ, ◌<◌, ◌∷◌, [], List, length, arith, ap, subst, sym, ◌∙◌, inr}
use Rattle.iox2_pubsub.specs.Domains.{Key, ServiceConfig}
use Rattle.iox2_pubsub.specs.Handles.{blocked_sender, buffer_size_of}
use Rattle.iox2_pubsub.specs.Live.{AllFrom, IsConnected}
use Rattle.iox2_pubsub.proofs.AllSubscribers.{only_one_is_pending}
use Rattle.iox2_pubsub.proofs.ForCallers.{all_from_as_before, length_singles, singles_append}
use Rattle.iox2_pubsub.specs.Payloads.{singles}
use Rattle.message_patterns.proofs.blocking.push_again.Goals as goal

pub returns-in-Ok-Blocked-clause-waits : goal.returns-in-Ok-Blocked-clause-waits
returns-in-Ok-Blocked-clause-waits g c = λ subscriber value earlier pending joined wait.
    let sent = rw c.in-Ok-Blocked.field-0-is at c.in-Ok-Blocked.ensures in
    let new = c.retry.new.domain in
    let again = c.in-Ok-Blocked.again in
    let sender = blocked_sender c.args.waiting in
    let same : blocked_sender again ≡ sender = ap (λ (k : Key). k.port) sent.goes_on.blocked.1 in
    let left = only_one_is_pending new (sent.goes_on.stays.consistent sent.consistent) again c.args.domain.now
    subscriber (value ∷ []) (ap (λ (it : ServiceConfig). it.max_subscribers) sent.goes_on.stays.settings
    ∙ c.requires.one)
    (subst (λ (p : ℕ). IsConnected new p subscriber) (sym same)
    (sent.goes_on.up_to_date.connections sender subscriber joined))
    (sent.resumes.pending subscriber (value ∷ []) tt pending joined) in
    (all_from_as_before c.args.domain.now new subscriber left.0 sender (singles earlier) wait, left.1)

pub returns-in-Ok-Delivered-clause-taken : goal.returns-in-Ok-Delivered-clause-taken
returns-in-Ok-Delivered-clause-taken g c = λ subscriber value earlier pending joined wait its room.
    let sent = rw c.in-Ok-Delivered.field-0-is at c.in-Ok-Delivered.ensures in
    let same : length (singles earlier) ≡ length earlier = length_singles earlier in
    let fits : length (singles earlier) < buffer_size_of subscriber = omega (arith, same, room) in
    subst (λ (l : List (List ℕ)). AllFrom c.retry.new.domain (blocked_sender c.args.waiting) subscriber l)
    (sym (singles_append earlier value))
    (sent.resumes.joins subscriber (value ∷ []) (singles earlier) tt pending joined wait its fits tt)

pub returns-in-Ok-Blocked-clause-roomy : goal.returns-in-Ok-Blocked-clause-roomy
returns-in-Ok-Blocked-clause-roomy g c = λ subscriber value pending live room.
    let sent = rw c.in-Ok-Blocked.field-0-is at c.in-Ok-Blocked.ensures in
    sent.roomy subscriber (value ∷ []) (subscriber ∷ []) pending
    (record {
      live = (live, tt);
      different = (tt, tt);
      full = let one : (c.args.domain.now.config).max_subscribers
          ≡ 1 = c.requires.one in omega (arith, one);
    }) (inr room, tt)
