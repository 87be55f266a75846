-- 01, "What we will read in the promises": two results that both satisfy a call's promise are the same.
use Rattle.answer.specs.declared.Answer.{Answer}
use Rattle.answer.specs.Promises.{One, OneLent}
use Rattle.vector.specs.declared.Vector.{Vector}
use Rattle.bias.specs.declared.BiasSettings.{BiasSettings}
use Rattle.bias.specs.declared.Bias.{Bias}
use Rattle.bias.specs.Calls.{Starts, Reads, SetsOffset, Restarts, SetsSettings, SettingsReads, OffsetReads, ActiveReads}

pub record Determined : Type 0 where
  pub start : (s : BiasSettings) → One (Starts s)
  pub update : (b : Bias) (g : Vector) → One (Reads b g)
  -- the lent state afterwards, and the answer
  pub update_lent : (b : Bias) (g : Vector) → OneLent (λ (after : Bias) (r : Answer). Reads b g (record { state = after; answer = r }))
  pub set_offset : (b : Bias) (v : Vector) → One (SetsOffset b v)
  pub restart : (b : Bias) → One (Restarts b)
  pub set_settings : (b : Bias) (s : BiasSettings) → One (SetsSettings b s)
  pub settings : (b : Bias) → One (SettingsReads b)
  pub offset : (b : Bias) → One (OffsetReads b)
  pub is_active : (b : Bias) → One (ActiveReads b)
