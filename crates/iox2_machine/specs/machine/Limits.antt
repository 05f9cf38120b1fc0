-- The limits that a service's configuration sets. All are mathematical values, which needn't fit a machine word.
use Rattle.std.specs.Prelude.{ℕ, Bool, ◌+◌, ◌-◌, ◌*◌, ◌^◌, max, nat_lt}
use Rattle.iox2_machine.specs.declared.service_config.ServiceConfig.{ServiceConfig}

-- A subscriber's buffer holds at most as many messages as the service allows, and at least one.
abbrev pub buffer_limit : ServiceConfig → ℕ
buffer_limit c = max 1 c.subscriber_max_buffer_size

-- The limit of the departed publishers that a subscriber keeps: it is at least the number of messages that may be
-- borrowed of one publisher.
-- (iceoryx2: `port/subscriber.rs`, `Subscriber::new`, which raises the setting and warns.)
abbrev pub expired_limit : ServiceConfig → ℕ
expired_limit c = max c.subscriber_expired_connection_buffer c.subscriber_max_borrowed_samples

-- How many channels each connection has: at least one.
abbrev pub channel_count : ServiceConfig → ℕ
channel_count c = max 1 c.number_of_channels

-- For each channel of each subscriber its buffer and what it may borrow; then the history; then the loans.
abbrev pub worst_case : ServiceConfig → (loans : ℕ) → ℕ
worst_case c loans =
    c.max_subscribers * channel_count c * (buffer_limit c + c.subscriber_max_borrowed_samples) + c.history_size + loans

-- A counter of ports or messages ends here: this number is never given out.
abbrev pub last_number : ℕ
last_number = 2 ^ 128 - 1

-- A publisher makes at most that many segments in its life.
-- (iceoryx2: `port/details/data_segment.rs`, `max_number_of_segments`.)
abbrev pub segment_limit : ℕ
segment_limit = 255

-- At most that many warnings are kept: the last ones. Older ones are forgotten.
abbrev pub warning_limit : ℕ
warning_limit = 32

-- The count of refused connections ends here: this number means that many or more.
abbrev pub refusal_limit : ℕ
refusal_limit = 2 ^ 64 - 1

-- The number fits a machine word (`usize`).
abbrev pub fits : ℕ → Bool
fits n = nat_lt n (2 ^ 64)

-- That many slots of that many elements each fit a machine word.
abbrev pub segment_fits : ServiceConfig → (slots len : ℕ) → Bool
segment_fits c slots len = fits (slots * len * c.units_per_element)
