mod OneAnswer
mod ReadLemmas
