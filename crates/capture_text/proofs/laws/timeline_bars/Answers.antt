use Rattle.capture_text.proofs.TimelineTextLaws as lemmas
use Rattle.capture_text.proofs.laws.timeline_bars.Goals as goal

pub returns-clause-longest : goal.returns-clause-longest
returns-clause-longest c = lemmas.longest_bar

pub returns-clause-most : goal.returns-clause-most
returns-clause-most c = lemmas.bar_of_most

pub returns-clause-least : goal.returns-clause-least
returns-clause-least c = lemmas.some_bar
