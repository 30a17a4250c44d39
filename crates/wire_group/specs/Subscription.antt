-- Subscription: Kafka's ConsumerProtocolSubscription.json, versions 0 and higher.
use Rattle.std.specs.Prelude.{pos, refl}
use Rattle.wire_group.specs.declared.subscription.Subscription.{Subscription}
use Rattle.wire_layout.specs.Layout.{Layout, field, fixed, ◌&◌, string, nullable_bytes, array}
use Rattle.wire_layout.specs.Laid.{IsLaid}
use Rattle.wire_layout.specs.ItemLaws.{string_laid, nullable_bytes_laid}
use Rattle.wire_layout.specs.ArrayLaws.{array_laid}
use Rattle.wire_layout.specs.RowLaws.{told, fixed_told, ◌⊗◌, all_told}

abbrev pub subscription : Layout Subscription
subscription =
    fixed (λ m. m.version) (pos 0)
    & field (λ m. m.topic) (array string)
    & field (λ m. m.user) nullable_bytes

pub subscription_laid : IsLaid subscription
subscription_laid =
    all_told (fixed_told _ (pos 0) ⊗ told (array_laid _ string_laid) ⊗ told nullable_bytes_laid)
    (λ t. record { version = t.0; topic = t.1.0; user = t.1.1 }) (λ m. refl)
