use Rattle.std.proofs.Common.{rules}
use Rattle.comemo_named.proofs.named.SumRunContextContextCall.run.Goals as goal

pub returns-in_ok-styles-in-Location-clause-right : goal.returns-in_ok-styles-in-Location-clause-right
returns-in_ok-styles-in-Location-clause-right c = λ m f. search (rules, c.in_ok-styles-in-Location.ensures.tells.told m f, c.in_ok-location-in-Location.ensures.tells.told m (c.in_ok-styles-in-Location.ensures.tells.before m f))

pub returns-in_ok-location-in-Styles-clause-right : goal.returns-in_ok-location-in-Styles-clause-right
returns-in_ok-location-in-Styles-clause-right c = λ m f. search (rules, c.in_ok-location-in-Styles.ensures.tells.told m f, c.in_ok-styles-in-Styles.ensures.tells.told m (c.in_ok-location-in-Styles.ensures.tells.before m f))
