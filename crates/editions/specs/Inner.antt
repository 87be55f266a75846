-- What the inner functions promise each other: the stores of the settings, in the code's order.
use Rattle.std.specs.Prelude.{ℕ, List}
use Rattle.bias.specs.declared.BiasSettings.{BiasSettings}
use Rattle.wire.specs.Wire.{put_bits, bits_of}

abbrev pub put_settings : BiasSettings → List ℕ → List ℕ
put_settings p s =
    put_bits
    (put_bits
    (put_bits (put_bits s 18 (bits_of p.sample_rate)) 22 (bits_of p.cutoff_frequency))
    26 (bits_of p.stationary_threshold))
    30 (bits_of p.stationary_period)
