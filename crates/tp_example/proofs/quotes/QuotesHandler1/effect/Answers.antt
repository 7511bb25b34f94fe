use Rattle.std.proofs.Common.{sym}
use Rattle.tp_example.specs.Quotes.{price_heard}
use Rattle.tp_example.proofs.quotes.QuotesHandler1.effect.Goals as goal

pub returns-clause-allowed : goal.returns-clause-allowed
returns-clause-allowed g c = (price_heard c.price-price.result, sym c.quoted.ensures)
